-- `desk::sound` meets its contract: each test answers a part of the rules' test.
use native.Mathlib.Omega.{arith}
use mathlib.Core.Bool.{Bool, ◌&&◌}
use mathlib.Core.List.{List}
use mathlib.Core.Path.{◌≡◌, sym, ap, ◌∙◌}
use Prim.Native.Nat.{ℕ}
use lib.Dec.{leb}
use lib.ListN.{drop}
use borrow.Author.Rules.{rules}
use Rattle.rules.specs.Bytes.{words_of_bytes}
use Rattle.rules.specs.Table.{list_offset, marks_offset, scan_sound}
use Rattle.rules.proofs.Laws.Bytes.Bytes.{words_are_16}
use Rattle.marks.specs.Marks.{marks, ones_in}
use Rattle.words.proofs.Laws.{length-words, words-part}
use Rattle.words.specs.Words.{all_zero}
use Rattle.desk.specs.Layout.{list_sound_as, marks_of_record, sound_as}
use Rattle.desk.proofs.SoundLaws.{sound_tests}
use Rattle.desk.proofs.sound.Goals as goal
use Rattle.desk.proofs.sound.Goals.{After-count-k, After-marks_sound}

-- the test of the marks, with what the code has read
abbrev marks-pass : (g : _) → After-count-k g → Bool
marks-pass g c =
    let m = marks_of_record (words_of_bytes c.args.r.now) in all_zero (drop c.count-tested.result (marks m)) && leb (ones_in m) c.count-k.result

-- the definition, with what the code has read
all_tests : (g : _) (c : After-count-k g) → sound_as g.L.Slots.layout c.args.s (words_of_bytes c.args.r.now)
    ≡ scan_sound c.args.s c.count-tested.result c.count-k.result && (marks-pass g c && list_sound_as g.L.Slots.layout c.args.s (words_of_bytes c.args.r.now))
all_tests g c =
    sound_tests g.L.Slots.layout g.L.Slots.laws c.args.s (words_of_bytes c.args.r.now) c.count-tested.result c.count-k.result (omega (arith, length-words c.args.r.now, c.requires.whole)) c.count-tested.ensures.0 c.count-k.ensures.0 (words_are_16 c.args.r.now (search rules))

-- what the code finds of the marks
marks_tested : (g : _) (c : After-marks_sound g) → c.marks_sound.result ≡ marks-pass g (goal.at.After-marks_sound g c).After-count-k
marks_tested g c =
    c.marks_sound.ensures
    ∙ ap (λ (m : List ℕ). all_zero (drop c.count-tested.result (marks m)) && leb (ones_in m) c.count-k.result) (words-part marks_offset list_offset c.args.r.now)

pub returns-then-not-sound_scan : goal.returns-then-not-sound_scan
returns-then-not-sound_scan g c = sym (all_tests g (goal.at.returns-then-not-sound_scan g c).After-count-k ∙ rw (sym c.sound_scan.ensures ∙ c.if-not-sound_scan.true))

pub returns-then-not-marks_sound : goal.returns-then-not-marks_sound
returns-then-not-marks_sound g c =
    sym (all_tests g (goal.at.returns-then-not-marks_sound g c).After-count-k
    ∙ rw (sym c.sound_scan.ensures ∙ c.if-not-sound_scan.false, sym (marks_tested g (goal.at.returns-then-not-marks_sound g c).After-marks_sound) ∙ c.if-not-marks_sound.true))

pub returns : goal.returns
returns g c =
    c.sound_list.ensures
    ∙ sym (all_tests g (goal.at.returns g c).After-count-k
    ∙ rw (sym c.sound_scan.ensures ∙ c.if-not-sound_scan.false, sym (marks_tested g (goal.at.returns g c).After-marks_sound) ∙ c.if-not-marks_sound.false))
