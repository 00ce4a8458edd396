-- Who comes by one try to accept a client.
use Rattle.std.specs.Prelude.{List, [], ◌∷◌}
use Rattle.clients.specs.declared.network.Accepted.{Accepted}
use Rattle.clients.specs.declared.network.Accepted.TheVariants as accepted

abbrev pub CameBy : {S : Type 0} → (came : List S → Type 0) → Accepted S → Type 0
CameBy came (accepted.Client stream address) = came (stream ∷ [])
CameBy came accepted.Unwatched = came []
CameBy came accepted.Again = came []
CameBy came accepted.Nobody = came []
CameBy came accepted.Later = came []
