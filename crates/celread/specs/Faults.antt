-- Why a text is not read whose tokens are not.
use Rattle.celread.specs.declared.parse_fault.ParseFault.{ParseFault}
use Rattle.celread.specs.declared.parse_fault.ParseFault.TheVariants as parse_fault
use Rattle.celread.specs.declared.fault.ReadFault.{ReadFault}
use Rattle.celread.specs.declared.fault.ReadFault.TheVariants as fault

abbrev pub of_parse_fault : ParseFault → ReadFault
of_parse_fault parse_fault.NotInGrammar = fault.NotInGrammar
of_parse_fault parse_fault.Memory = fault.Memory
