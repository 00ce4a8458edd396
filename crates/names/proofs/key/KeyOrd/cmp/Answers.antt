use Rattle.names.proofs.KeyOrder.{key_cmp-IsAntisymmetric, slice_cmp-key_bytes, key_bytes-injective}
use Rattle.names.proofs.key.KeyOrd.cmp.Goals as goal

pub returns-clause-same : goal.returns-clause-same
returns-clause-same c = key_cmp-IsAntisymmetric

pub returns-clause-bytes : goal.returns-clause-bytes
returns-clause-bytes c = slice_cmp-key_bytes

pub returns-clause-spelling : goal.returns-clause-spelling
returns-clause-spelling c = key_bytes-injective
