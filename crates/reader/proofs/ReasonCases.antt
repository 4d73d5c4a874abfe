-- Which numbers are those of reasons, and readings that end, to which the laws of `Reasons` are applied.
use Rattle.std.specs.Prelude.{◌≡◌, refl, ℕ, [], ◌∷◌, Option, Err}
use Rattle.std.proofs.Common.{arith}
use Rattle.rules.specs.Numbers.{decode_number, max_number, parsed, refusal_of, refused}
use Rattle.sheet_rules.specs.Edition1.{decode_header, decode_record, format_for}
use Rattle.sheet_rules.specs.Edition2.{decode_header2, decode_record2, edition_for}
use Rattle.sheet_rules.specs.Sheet.{begin_sheet}
use Rattle.reply.specs.declared.Reason.TheVariants.{TableShort}
use Rattle.reply.proofs.Numbers.{at_most_23, not_0}
use Rattle.limits.specs.Room.{limits_of}
use Rattle.reader.specs.Results.{carried_of, edition_of, format_of, header_result, padding_of, reason_of, record_result, version_of}
use Rattle.reader.specs.declared.Edition.{Edition as ReaderEdition}
use Rattle.reader.specs.declared.Format.{Format as ReaderFormat}
use Rattle.reader.specs.declared.Padding.{Padding as ReaderPadding}
use Rattle.reader.specs.declared.Padding.TheVariants.{Allowed, Barred}
use Rattle.reader.specs.declared.Refusal.{Refusal as ReaderRefusal}
use Rattle.reader.specs.declared.Version.{Version as ReaderVersion}
use Rattle.reader.specs.declared.Version.TheVariants.{One, Two}
use Rattle.reader.proofs.Reasons.{HasReason, OfReason, number_refused, record_refused, sheet_refused}

-- Neither 0 nor 24 is the number of a reason.
pub no_reason : (OfReason 0 → ⊥) × (OfReason 24 → ⊥)
no_reason = (λ is. not_0 is.0 is.1, λ is. omega (arith, at_most_23 is.0, is.1))

-- The number is asked, not the code or the offset, and not a value that was read.
pub number_asked :
    HasReason {A = ℕ} (parsed 24 24)
    × HasReason {A = ℕ} (refused (refusal_of 24 4 24))
    × (HasReason {A = ℕ} (refused (refusal_of 4 24 4)) → ⊥)
number_asked = (tt, (TableShort, refl), no_reason.1)

-- A number of no byte ends too soon, and so does a sheet without bytes; no step has the code 6.
abbrev ends : ReaderRefusal
ends = record { code = 0; number = 15; offset = 0 }

abbrev six : ReaderRefusal
six = record { code = 6; number = 17; offset = 0 }

pub number_ends : (format : ReaderFormat) → refused (reason_of ends) ≡ (format_of format).read_number max_number [] 0
unfolding decode_number
number_ends format = refl

pub no_code : (edition : ReaderEdition) (carried : Option ℕ) → record_result (Err six) ≡ (edition_of edition).decode_record (carried_of carried) (6 ∷ []) 0
unfolding decode_record decode_record2 decode_number
no_code edition carried = by_version edition.version edition.format.padding
  where
    by_version : (version : ReaderVersion) (padding : ReaderPadding)
        → refused (reason_of six) ≡ (edition_for (version_of version) (format_for (padding_of padding) (limits_of edition.format.limits))).decode_record (carried_of carried) (6 ∷ []) 0
    by_version One Allowed = refl
    by_version One Barred = refl
    by_version Two Allowed = refl
    by_version Two Barred = refl

pub empty_ends : (edition : ReaderEdition) → header_result (Err ends) ≡ begin_sheet (edition_of edition) []
unfolding decode_header decode_header2 decode_number
empty_ends edition = by_version edition.version
  where
    by_version : (version : ReaderVersion) → refused (reason_of ends) ≡ (edition_for (version_of version) (format_of edition.format)).decode_header [] 0
    by_version One = refl
    by_version Two = refl

pub applied : (edition : ReaderEdition) (carried : Option ℕ) → OfReason 15 × OfReason 17 × OfReason 15
applied edition carried = (
  number_refused edition.format max_number [] 0 (number_ends edition.format),
  record_refused edition carried (6 ∷ []) 0 (no_code edition carried),
  sheet_refused edition [] (empty_ends edition),
)
