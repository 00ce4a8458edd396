use Rattle.roots.proofs.Laying.{laid-header, fields-header, row-header}
use Rattle.roots.proofs.sector.header_bytes.Goals as goal

pub returns-clause-header : goal.returns-clause-header
returns-clause-header c =
    fields-header c.put_u32-2.new.sector
    (laid-header c.put.new.sector c.put_u32.new.sector c.put_u32-2.new.sector c.put.ensures c.put_u32.ensures.row c.put_u32-2.ensures.row)

pub returns-clause-bytes : goal.returns-clause-bytes
returns-clause-bytes c =
    row-header c.put_u32-2.new.sector
    (laid-header c.put.new.sector c.put_u32.new.sector c.put_u32-2.new.sector c.put.ensures c.put_u32.ensures.row c.put_u32-2.ensures.row)
