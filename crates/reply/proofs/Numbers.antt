-- No reason has the number of an acceptance, and none has one over 23.
use Rattle.std.proofs.Common.{◌≡◌, ◌≤◌, ℕ, arith}
use Rattle.reply.specs.Answer.{number_of}
use Rattle.reply.specs.declared.Reason.{Reason}
use Rattle.reply.specs.declared.Reason.TheVariants.{BadDesks, BadPositions, BadScreens, Ends, NoCode, NoDesk, NoPosition, NoRoom, NoScreen, OtherMessage}
use Rattle.reply.specs.declared.Reason.TheVariants.{OverLimits, OwesNothing, Owing, Padded, PositionEmpty, ScreenEmpty, ScreenFull, TableShort, TooLarge, TooLong}
use Rattle.reply.specs.declared.Reason.TheVariants.{Unsound, WrongDesk, WrongEdition}

pub not_0 : (reason : Reason) → number_of reason ≡ 0 → ⊥
not_0 BadDesks none = omega arith
not_0 BadScreens none = omega arith
not_0 BadPositions none = omega arith
not_0 TableShort none = omega arith
not_0 Unsound none = omega arith
not_0 NoDesk none = omega arith
not_0 NoScreen none = omega arith
not_0 NoPosition none = omega arith
not_0 ScreenFull none = omega arith
not_0 PositionEmpty none = omega arith
not_0 ScreenEmpty none = omega arith
not_0 Owing none = omega arith
not_0 OwesNothing none = omega arith
not_0 NoRoom none = omega arith
not_0 Ends none = omega arith
not_0 TooLarge none = omega arith
not_0 NoCode none = omega arith
not_0 TooLong none = omega arith
not_0 Padded none = omega arith
not_0 WrongDesk none = omega arith
not_0 WrongEdition none = omega arith
not_0 OverLimits none = omega arith
not_0 OtherMessage none = omega arith

pub at_most_23 : (reason : Reason) → number_of reason ≤ 23
at_most_23 BadDesks = omega arith
at_most_23 BadScreens = omega arith
at_most_23 BadPositions = omega arith
at_most_23 TableShort = omega arith
at_most_23 Unsound = omega arith
at_most_23 NoDesk = omega arith
at_most_23 NoScreen = omega arith
at_most_23 NoPosition = omega arith
at_most_23 ScreenFull = omega arith
at_most_23 PositionEmpty = omega arith
at_most_23 ScreenEmpty = omega arith
at_most_23 Owing = omega arith
at_most_23 OwesNothing = omega arith
at_most_23 NoRoom = omega arith
at_most_23 Ends = omega arith
at_most_23 TooLarge = omega arith
at_most_23 NoCode = omega arith
at_most_23 TooLong = omega arith
at_most_23 Padded = omega arith
at_most_23 WrongDesk = omega arith
at_most_23 WrongEdition = omega arith
at_most_23 OverLimits = omega arith
at_most_23 OtherMessage = omega arith
