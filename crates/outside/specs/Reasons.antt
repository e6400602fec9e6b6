-- Why a file fails, in words.
use Rattle.std.specs.Prelude.{◌++◌, ℕ, List, codes, decimal}
use Rattle.outside.specs.declared.failure.Failure.{Failure}
use Rattle.outside.specs.declared.failure.Failure.TheVariants as failures

abbrev pub reason_of : Failure → List ℕ
reason_of failures.Missing = codes "there is no such file or folder"
reason_of failures.Memory = codes "memory ran out"
reason_of failures.Denied = codes "the permission for it is missing"
reason_of failures.Folder = codes "it is a folder"
reason_of failures.NoFolder = codes "a part of its path is a file and no folder"
reason_of failures.Full = codes "the disk is full"
reason_of failures.ReadOnly = codes "nothing can be written to this disk"
reason_of (failures.System number) = codes "the system gives error " ++ decimal number
