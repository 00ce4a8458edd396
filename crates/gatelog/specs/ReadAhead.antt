-- The disk of a device that is read in pieces.
use Rattle.device.specs.declared.device.Device.{Ghosts}
use Rattle.device.specs.Disk.{Disk}
use Rattle.gatelog.specs.declared.read_ahead.ReadAhead.{ReadAhead}

-- the device inside
abbrev pub ahead_disk : {D : Type 0} {g : Ghosts D} → Disk (ReadAhead D g)
ahead_disk {D} {g} = record {
  content = λ a. g.disk.content a.device;
  left = λ a. g.disk.left a.device;
  moment = λ a. g.disk.moment a.device;
  since = λ a. g.disk.since a.device;
  failures = λ a. g.disk.failures a.device;
  keeps = λ a. g.disk.keeps a.device;
}
