use Rattle.std.proofs.Common.{List, ℕ, [], ◌∷◌, ◌++◌, ◌≡◌, refl, ◌∙◌, append_assoc}
use Rattle.std.proofs.KnownBytes.{Appends-trans}
use Rattle.output.specs.Line.{line}
use Rattle.output.proofs.Front.{err_next, front_next, on_err}
use Rattle.output.proofs.write_line.Goals as goal

abbrev colon : List ℕ
colon = 58 ∷ 32 ∷ []

abbrev newline : List ℕ
newline = 10 ∷ []

three_parts : (what reason : List ℕ) → (what ++ colon) ++ (reason ++ newline) ≡ line what reason
three_parts what reason = append_assoc what colon (reason ++ newline)

four_parts : (what reason : List ℕ) → ((what ++ colon) ++ reason) ++ (newline ++ []) ≡ line what reason
four_parts what reason = append_assoc (what ++ colon) reason newline ∙ three_parts what reason

pub returns-in_err-write_all-2-clause-front : goal.returns-in_err-write_all-2-clause-front
returns-in_err-write_all-2-clause-front g c =
    let what = c.args.what.now in
    let reason = c.args.reason.now in
    on_err c.from_residual-in_err-write_all-2.result
    (front_next _ _ _ what colon (reason ++ newline) (line what reason) c.in_ok-write_all.ensures.all c.in_err-write_all-2.ensures.front refl)

pub returns-in_err-write_all-3-clause-front : goal.returns-in_err-write_all-3-clause-front
returns-in_err-write_all-3-clause-front g c =
    let what = c.args.what.now in
    let reason = c.args.reason.now in
    let two = Appends-trans _ _ _ what colon c.in_ok-write_all.ensures.all c.in_ok-write_all-2.ensures.all in
    on_err c.from_residual-in_err-write_all-3.result
    (front_next _ _ _ (what ++ colon) reason newline (line what reason) two c.in_err-write_all-3.ensures.front (three_parts what reason))

pub returns-clause-front : goal.returns-clause-front
returns-clause-front g c =
    let what = c.args.what.now in
    let reason = c.args.reason.now in
    let two = Appends-trans _ _ _ what colon c.in_ok-write_all.ensures.all c.in_ok-write_all-2.ensures.all in
    let three = Appends-trans _ _ _ (what ++ colon) reason two c.in_ok-write_all-3.ensures.all in
    err_next c.write_all-4.result _ _ _ ((what ++ colon) ++ reason) newline [] (line what reason) three c.write_all-4.ensures.front (four_parts what reason)
