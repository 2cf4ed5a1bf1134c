-- When a file that is written through a buffer is whole.
use Rattle.std.specs.Prelude.{◌≡◌, [], true, false}
use Rattle.file_buffers.specs.declared.writer.BlockWriter.{BlockWriter}

-- nothing waits, no write failed, and nothing was written since all was handed to the device
abbrev pub IsFinished : BlockWriter → Type 0
IsFinished writer = (writer.waiting.items ≡ []) × (writer.broken ≡ false) × (writer.synced ≡ true)
