-- The options of a writer whose form is taken.
use Rattle.std.specs.Prelude.{◌≡◌, ◌≤◌, length, true, IfSome}
use Rattle.std.specs.List.{All}
use Rattle.las_header.specs.Offsets.{IsOffset}
use Rattle.las_header.specs.Versions.{is_version, takes_format}
use Rattle.forward_rules.specs.declared.options.LasOpts.{LasOpts}
use Rattle.forward_rules.specs.Forwarded.{given_or}

-- a version that is given is 1.2, 1.3 or 1.4, a format that is given is one of it, offsets are below 10 ^ 9 in size, and identifiers have at
-- most 32 bytes
pub record AreGoodOptions (opts : LasOpts) : Type 0 where
  pub version : is_version (given_or opts.minor 4) ≡ true
  pub format : IfSome opts.format (λ format. takes_format (given_or opts.minor 4) format ≡ true)
  pub offsets : All (λ offset. IfSome offset IsOffset) opts.offset
  pub system : IfSome opts.system (λ name. length name ≤ 32)
  pub software : IfSome opts.software (λ name. length name ≤ 32)
