-- `ring_desk::partition_around` meets its contract.
use Prim.Native.Nat.{ℕ, ◌*◌}
use native.Mathlib.Omega.{arith}
use mathlib.Core.Path.{◌≡◌, subst}
use lib.ListN.{length, replicate, take}
use Rattle.rules.specs.Bytes.{words_of_bytes}
use Rattle.words.proofs.Laws.{length-words}
use Rattle.marks.specs.Marks.{marks}
use Rattle.ring_desk.specs.Around.{Parted}
use Rattle.ring_desk.proofs.AroundLaws.{parted_inside, room-length}
use Rattle.ring_desk.proofs.partition_around.Goals as goal
use Rattle.ring_desk.proofs.partition_around.Goals.{Start}

-- the room for the copy
room : (o : Start) → length (take (2 * o.args.n) (replicate {A = ℕ} 256 0)) ≡ 2 * o.args.n
room o = room-length o.args.n (omega (arith, o.requires))

pub returns-then-e-s : goal.returns-then-e-s
returns-then-e-s c =
    parted_inside c.args.s c.args.a c.args.n c.args.l.now c.partition.new.l (marks (words_of_bytes c.args.m.now))
    c.requires.0.whole c.requires.0.slot c.if-e-s.true c.partition.auto.l c.partition.ensures

pub returns : goal.returns
returns c =
    let n = c.args.n in
    let many : length (words_of_bytes (take (2 * n) (replicate {A = ℕ} 256 0))) ≡ n =
    omega (arith, length-words (take (2 * n) (replicate {A = ℕ} 256 0)), room (goal.at.returns c).Start) in
    subst (λ (k : ℕ). Parted (words_of_bytes c.args.l.now) (marks (words_of_bytes c.args.m.now)) c.args.a k (words_of_bytes c.partition_in.new.l))
    many c.partition_in.ensures
