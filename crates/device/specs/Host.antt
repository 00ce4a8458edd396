-- A file of the operating system.
use Rattle.std.specs.Prelude.{[]}
use Rattle.device.specs.declared.host_file.HostFile.{HostFile}
use Rattle.device.specs.Disk.{Disk}

-- What a proof knows of such a file: how often it failed, and nothing of what it holds. That it keeps the disk model is no fact of a proof, so each clause on its content is empty here.
abbrev pub host_disk : Disk HostFile
host_disk = record {
  content = λ f. [];
  left = λ f c. ⊥;
  moment = λ f. 0;
  since = λ f t c. ⊥;
  failures = λ f. f.failures;
  keeps = λ f. ⊥;
}
