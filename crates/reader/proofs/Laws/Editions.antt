-- Every edition of the reader is lawful, and its limits are those that it was given.
use Rattle.std.specs.Prelude.{◌≤◌, ◌≡◌, refl}
use Rattle.limits.specs.Room.{limits_of}
use Rattle.sheet_rules.specs.Edition1.{Format}
use Rattle.sheet_rules.specs.Edition2.{Version, edition_for, version1, version2}
use Rattle.sheet_rules.specs.Lawful.{Lawful}
use Rattle.sheet_rules.proofs.SheetTheorems.{editions_lawful, numbers_are_lawful}
use Rattle.reader.specs.Results.{edition_of, format_of, padding_of, version_of}
use Rattle.reader.specs.declared.Edition.{Edition}

pub edition_lawful : (edition : Edition) → edition.format.limits.sessions ≤ 65535 → Lawful (edition_of edition)
edition_lawful edition = editions_lawful (version_of edition.version) (format_of edition.format) (numbers_are_lawful (padding_of edition.format.padding))

edition_for-limits : (version : Version) (format : Format) → (edition_for version format).limits ≡ format.limits
edition_for-limits version1 format = refl
edition_for-limits version2 format = refl

pub edition_limits : (edition : Edition) → (edition_of edition).limits ≡ limits_of edition.format.limits
edition_limits edition = edition_for-limits (version_of edition.version) (format_of edition.format)
