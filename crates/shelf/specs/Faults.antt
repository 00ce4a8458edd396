-- How a reader's faults are told.
use Rattle.checkpoint.specs.declared.reader.ReaderFault as read
use Rattle.checkpoint.specs.declared.reader.ReaderFault.TheVariants as read_fault
use Rattle.shelf.specs.declared.fault.ShelfFault.{ShelfFault}
use Rattle.shelf.specs.declared.fault.ShelfFault.TheVariants.{Entry, Memory}

abbrev pub of_reader_fault : read.ReaderFault → ShelfFault
of_reader_fault read_fault.Entry = Entry
of_reader_fault read_fault.Memory = Memory
