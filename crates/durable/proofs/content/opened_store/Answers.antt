use Rattle.durable.proofs.ReadingAhead.{read_opened, whole_opened}
use Rattle.durable.proofs.content.opened_store.Goals as goal

pub returns-in-Ok-clause-read : goal.returns-in-Ok-clause-read
returns-in-Ok-clause-read g c =
    read_opened c.in-Ok.made c.synced_store-read.new.device c.args.device c.into_device.result c.in-Ok.ensures.device c.into_device.ensures c.synced_store-read.result
    c.synced_store-read.ensures.read

pub returns-in-Ok-clause-whole : goal.returns-in-Ok-clause-whole
returns-in-Ok-clause-whole g c =
    whole_opened c.in-Ok.made c.synced_store-read.new.device c.args.device c.into_device.result c.in-Ok.ensures.device c.into_device.ensures c.synced_store-read.result
    c.synced_store-read.ensures.whole
