use Rattle.dialect.proofs.discovery.core_schemas.Goals as goal

pub returns-in-Second : goal.returns-in-Second
returns-in-Second c = rw c.in-Second.is c.core_schemas_of_later.ensures.second

pub returns-in-Third : goal.returns-in-Third
returns-in-Third c = rw c.in-Third.is c.core_schemas_of_later-in-Third.ensures.third
