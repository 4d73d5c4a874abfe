-- What the board above needs of this crate: a record that was found sound may be lent to it, and a collect that is given what the next
-- screens show is the rules' collect.
use Prim.Native.Nat.{ℕ, ◌*◌, ◌^◌, ◌≤◌, ◌<◌}
use native.Mathlib.Omega.{arith}
use mathlib.Core.Bool.{true}
use mathlib.Core.List.{List}
use mathlib.Core.Path.{◌≡◌, ap, refl, sym}
use lib.Dec.{ltb}
use lib.ListN.{length, get_or, take, drop}
use borrow.Author.Tests.{ltb-true}
use Rattle.rules.specs.Hall.{max_all_screens}
use Rattle.rules.specs.Steps.{begin, collect, collect_seeing, next_screens}
use Rattle.rules.specs.Table.{record_sound}
use Rattle.rules.proofs.Laws.Lists.Bools.{and_left, and_right}
use Rattle.desk.proofs.DeskTie.{begin-scanned, scanned-below, scanned_word, sound_encoded}
use Rattle.ring_rules.specs.Ring.{beginning_in, collect_ring, decode_ring, linear, ring_record_sound, ring_width_for}
use Rattle.ring_rules.proofs.Laws.Records.{linear-length}
use Rattle.ring_desk.specs.RingRecord.{RingEncoded, collect_ring_seeing}
use Rattle.ring_desk.proofs.RingParts.{linear-small}

-- ---- a record that passes the soundness test
module _ (s : ℕ) (r : List ℕ) (sound : ring_record_sound s r ≡ true) where
  pub sound-begins : beginning_in s r < 2 * s
  sound-begins = ltb-true (beginning_in s r) (2 * s) (and_left (ltb (beginning_in s r) (2 * s)) (record_sound s (linear s r)) sound)

  pub sound_reads : record_sound s (linear s r) ≡ true
  sound_reads = and_right (ltb (beginning_in s r) (2 * s)) (record_sound s (linear s r)) sound

  pub sound_ring_encoded : s ≤ max_all_screens → length r ≡ ring_width_for s → ((i : ℕ) → get_or r i 0 < 2 ^ 16) → RingEncoded s r
  sound_ring_encoded bounded long small =
      record { long = long; begins = sound-begins; reads = sound_encoded s (linear s r) bounded (linear-length s r long) (linear-small s r small) sound_reads }

  -- its k: a ring that begins at a slot has one, so there is a screen
  pub ring-scanned-below : (decode_ring s r).scanned < s
  ring-scanned-below = omega (arith, scanned_word s (linear s r), scanned-below s (linear s r) (omega (arith, sound-begins)) sound_reads)

  pub ring-scanned-small : s ≤ max_all_screens → (decode_ring s r).scanned < 65534
  ring-scanned-small bounded = omega (arith, ring-scanned-below)

-- ---- a collect that is given what the next screens show: as the definition reads them, after (a)
module _ (s : ℕ) (shown r : List ℕ) where
  pub collect_ring-seeing : collect_ring_seeing s (next_screens shown (begin (decode_ring s r))) r ≡ collect_ring s shown r
  collect_ring-seeing = refl

  pub collect_session_seeing : (collect_seeing s (next_screens shown (begin (decode_ring s r))) (decode_ring s r)).session ≡ (collect s shown (decode_ring s r)).session
  collect_session_seeing = refl

  -- and as the board does, before (a), which leaves k as it is
  pub next_screens_same : next_screens shown (decode_ring s r) ≡ next_screens shown (begin (decode_ring s r))
  next_screens_same = λ i. take 2 (drop (sym (begin-scanned (decode_ring s r)) i) shown)

  pub collect_ring-next : collect_ring_seeing s (next_screens shown (decode_ring s r)) r ≡ collect_ring s shown r
  collect_ring-next = ap (λ (sessions : List ℕ). collect_ring_seeing s sessions r) next_screens_same

  pub collect_session_next : (collect_seeing s (next_screens shown (decode_ring s r)) (decode_ring s r)).session ≡ (collect s shown (decode_ring s r)).session
  collect_session_next = ap (λ (sessions : List ℕ). (collect_seeing s sessions (decode_ring s r)).session) next_screens_same
