-- What a store of files shows of the objects that it handed out.
use Rattle.std.specs.Prelude.{◌≡◌, ◌≤◌, ◌+◌, ℕ}
use Rattle.file_devices.specs.declared.devices.Files as files

-- of its objects `after` are out now in place of `before`, and none came back; its count of faults may be higher, and all else is as it was
pub record Lends {F I O : Type 0} (f : files.Ghosts F I O) (before after : ℕ) (old new : F) : Type 0 where
  pub map : f.map new ≡ f.map old
  pub read_to : f.read_to new ≡ f.read_to old
  pub counts : f.counts new ≡ f.counts old
  pub later : f.faults old ≤ f.faults new
  pub lent : f.lent new + before ≡ f.lent old + after

-- as many of its objects as `back` came back, and no other is out that wasn't; its count of faults may be higher, and no name has other bytes
pub record Settles {F I O : Type 0} (f : files.Ghosts F I O) (back : ℕ) (old new : F) : Type 0 where
  pub map : f.map new ≡ f.map old
  pub later : f.faults old ≤ f.faults new
  pub lent : (others : ℕ) → f.lent old ≡ others + back → f.lent new ≡ others
