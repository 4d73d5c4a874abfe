-- What the records of a sheet do to a table: the call that each record requests, and its result. Document 01, "The day sheet".
use Rattle.std.specs.Prelude.{ℕ, List, [], ◌∷◌}
use Rattle.std.proofs.Math.Option.{Option, none, some}
use Rattle.rules.specs.Hall.{Limits}
use Rattle.rules.specs.Messages.{send}
use Rattle.rules.specs.Runs.{answer_request, request_for}
use Rattle.rules.specs.Steps.{Call, Collect, Drop, Result, Retire, Step, Swap, Take}
use Rattle.sheet_rules.specs.Sheet.{Record, Records, complete, more, stop}

-- "step code (take 1, drop 2, swap 3, retire 4, collect 5)"
abbrev pub code_of : Step → ℕ
code_of (Take c p) = 1
code_of (Drop c) = 2
code_of (Swap p session) = 3
code_of Retire = 4
code_of Collect = 5

-- The call that a record requests, before its message number is filled in. A record with any other code requests none.
abbrev pub call_of : Record → Option Call
call_of entry = request_for entry.code 0 entry.desk entry.screen entry.position entry.session

-- What a record does to a table. "The sheet program fills in the right number itself" (document 02, Job 6).
-- "Is the code 1 to 5? 17": the answer if no call is requested. "A "no" gives the number, session 0, and nothing written."
abbrev pub run_record : Limits → List ℕ → Record → Result (List ℕ)
run_record limits table entry = answer_request (send limits) table (call_of entry)

-- The calls that records request, in order.
abbrev pub cons_some : Option Call → List Call → List Call
cons_some none calls = calls
cons_some (some call) calls = call ∷ calls

abbrev pub calls_in : Records → List Call
calls_in complete = []
calls_in (stop reason) = []
calls_in (more entry rest) = cons_some (call_of entry) (calls_in rest)
