-- The numbers of a sheet: what is read has at least one byte, no fewer than the shortest form, is at most the limit, and depends on no other
-- byte; the shortest form is read back, and where padding is barred nothing else is read; a refusal carries the offset of its number.
use Rattle.std.specs.Prelude.{ℕ, zero, suc, ◌+◌, ◌*◌, ◌/◌, ◌%◌, ◌≤◌, ◌<◌, ◌≡◌, refl, Bool, true, false, cond, not, ◌&&◌, List, [], ◌∷◌, ◌++◌, length, take, drop, eqb, leb, ltb}
use Rattle.std.proofs.Common.{arith, sym, ap, ◌∙◌, subst, length-drop, take-append-drop, drop-drop, get_or-drop, ltb-false, leb-true, lt-ltb, le-ltb, le-leb, ne_eqb}
use Rattle.std.proofs.Math.Seq.{take-nil}
use Rattle.rules.specs.Bytes.{IsBytes}
use Rattle.rules.specs.Numbers.{Groups, Padding, Parsed, Refusal, allowed, allows, barred, decode_groups, decode_number, groups_in, highest, is_padded, judge, max_number}
use Rattle.rules.specs.Numbers.{overlong, parsed, prepend, refusal_of, refused, terminated, truncated, value_of}
use Rattle.sheet_rules.specs.Edition1.{encode_number, shortest}
use Rattle.sheet_rules.specs.Lawful.{ExactNumbers, LawfulNumbers, Moved, ReadsBack, RefusedAt, Stands}
use Rattle.sheet_rules.specs.Offsets.{refuses_number}
use Rattle.sheet_rules.proofs.Laws.Parsing.{asked_parsed, refused_not_parsed}

-- ---- What a number that was read says of its bytes.

-- Groups that are terminated have a byte or more, no more than there are, and no fewer than the shortest form of their value.
abbrev Taken : ℕ → ℕ → Groups → Type 0
Taken most bytes (terminated groups) = (1 ≤ length groups) × (length groups ≤ bytes) × (length (shortest most (value_of groups)) ≤ length groups)
Taken most bytes truncated = Unit {0}
Taken most bytes overlong = Unit {0}

groups_taken : (most : ℕ) (bytes : List ℕ) → Taken most (length bytes) (groups_in most bytes)
groups_taken zero bytes = tt
groups_taken (suc most) [] = tt
groups_taken (suc most) (byte ∷ bytes) = one_more (ltb byte 128) refl (groups_in most bytes) (groups_taken most bytes)
  where
    -- a number of one byte, and one more byte for a number that has more
    no_longer : (groups : List ℕ) → length (shortest most (value_of groups)) ≤ length groups
        → length (shortest (suc most) (byte % 128 + 128 * value_of groups)) ≤ suc (length groups)
    no_longer groups short = by_size (ltb value 128)
      where
        value : ℕ
        value = byte % 128 + 128 * value_of groups

        high : value / 128 ≡ value_of groups
        high = omega arith

        by_size : (small : Bool) → length (cond small (value ∷ []) ((value % 128 + 128) ∷ shortest most (value / 128))) ≤ suc (length groups)
        by_size true = omega arith
        by_size false = omega (arith, short, ap (λ (n : ℕ). length (shortest most n)) high)

    one_more : (last : Bool) → ltb byte 128 ≡ last → (found : Groups) → Taken most (length bytes) found
        → Taken (suc most) (suc (length bytes)) (cond last (terminated (byte ∷ [])) (prepend (byte % 128) found))
    one_more true is found taken = (omega arith, omega arith, let same : byte + 128 * 0 ≡ byte = omega arith in simp (same, is) (omega arith))
    one_more false is (terminated groups) taken = (omega arith, omega (arith, taken.1), no_longer groups taken.2)
    one_more false is truncated taken = tt
    one_more false is overlong taken = tt

-- A number that was judged and is read is at most the limit, and is not padded if padding is barred.
record Judged (padding : Padding) (limit value : ℕ) (padded : Bool) (next found after : ℕ) : Type 0 where
  small : value ≤ limit
  taken : allows padding padded ≡ true
  same : value ≡ found
  offset : next ≡ after

judged : (padding : Padding) (limit at value : ℕ) (padded : Bool) (next found after : ℕ) → judge padding limit at value padded next ≡ parsed found after
    → Judged padding limit value padded next found after
judged padding limit at value padded next found after e =
    let in_limit = asked_parsed (leb value limit) _ _ found after e in
    let not-padded = asked_parsed (allows padding padded) _ _ found after in_limit.1 in
    record { small = leb-true value limit in_limit.0; taken = not-padded.0; same = cc not-padded.1; offset = cc not-padded.1 }

record NumberParsed (limit : ℕ) (sheet : List ℕ) (at value next : ℕ) : Type 0 where
  small : value ≤ limit
  moved : Moved sheet at next
  no_longer : at + length (encode_number value) ≤ next

number_parsed : (padding : Padding) (limit : ℕ) (sheet : List ℕ) (at value next : ℕ) → decode_number padding limit sheet at ≡ parsed value next
    → NumberParsed limit sheet at value next
unfolding decode_number encode_number
number_parsed padding limit sheet at value next e = of_groups (groups_in 3 (drop at sheet)) (groups_taken 3 (drop at sheet)) e
  where
    of_groups : (found : Groups) → Taken 3 (length (drop at sheet)) found → decode_groups padding limit at found ≡ parsed value next
        → NumberParsed limit sheet at value next
    of_groups (terminated groups) taken q =
        let is = judged padding limit at (value_of groups) (is_padded groups) (at + length groups) value next q in
        record {
          small = omega (arith, is.small, is.same);
          moved = record { past = omega (arith, is.offset, taken.0); inside = omega (arith, is.offset, taken.0, taken.1, length-drop at sheet) };
          no_longer = omega (arith, is.offset, taken.2, ap (λ (n : ℕ). length (shortest 3 n)) is.same);
        }
    of_groups truncated taken q = absurd (refused_not_parsed q)
    of_groups overlong taken q = absurd (refused_not_parsed q)

-- ---- What is read depends on its own bytes alone.

truncated_not_terminated : {groups : List ℕ} → truncated ≡ terminated groups → ⊥
truncated_not_terminated e = let z : ◌≡◌ {A = ℕ} 0 1 = cc in omega arith

overlong_not_terminated : {groups : List ℕ} → overlong ≡ terminated groups → ⊥
overlong_not_terminated e = let z : ◌≡◌ {A = ℕ} 0 1 = cc in omega arith

-- terminated groups are found again, whatever follows their bytes
abbrev FoundAgain : ℕ → List ℕ → List ℕ → List ℕ → Type 0
FoundAgain most bytes rest groups = groups_in most (take (length groups) bytes ++ rest) ≡ terminated groups

groups_kept : (most : ℕ) (bytes rest groups : List ℕ) → groups_in most bytes ≡ terminated groups → FoundAgain most bytes rest groups
groups_kept zero bytes rest groups e = absurd (overlong_not_terminated e)
groups_kept (suc most) [] rest groups e = absurd (truncated_not_terminated e)
groups_kept (suc most) (byte ∷ bytes) rest groups e = by_byte (ltb byte 128) refl (groups_in most bytes) (groups_kept most bytes rest) e
  where
    by_byte : (last : Bool) → ltb byte 128 ≡ last → (found : Groups) → ((more : List ℕ) → found ≡ terminated more → FoundAgain most bytes rest more)
        → cond last (terminated (byte ∷ [])) (prepend (byte % 128) found) ≡ terminated groups
        → FoundAgain (suc most) (byte ∷ bytes) rest groups
    by_byte true is found later q =
        let one : byte ∷ [] ≡ groups = cc in
        subst (FoundAgain (suc most) (byte ∷ bytes) rest) one (simp is)
    by_byte false is (terminated more) later q =
        let all : (byte % 128) ∷ more ≡ groups = cc in
        subst (FoundAgain (suc most) (byte ∷ bytes) rest) all (simp (is, later more refl))
    by_byte false is truncated later q = absurd (truncated_not_terminated q)
    by_byte false is overlong later q = absurd (overlong_not_terminated q)

drop-take : (m n : ℕ) (list : List ℕ) → drop m (take (m + n) list) ≡ take n (drop m list)
drop-take zero n list = let same : zero + n ≡ n = omega arith in ap (λ (k : ℕ). take k list) same
drop-take (suc m) n [] = let same : suc m + n ≡ suc (m + n) = omega arith in ap (λ (k : ℕ). drop (suc m) (take k [])) same ∙ sym (take-nil n)
drop-take (suc m) n (first ∷ list) =
    let same : suc m + n ≡ suc (m + n) = omega arith in
    ap (λ (k : ℕ). drop (suc m) (take k (first ∷ list))) same ∙ drop-take m n list

take_kept : (at count next : ℕ) (sheet other : List ℕ) → next ≡ at + count → take next other ≡ take next sheet
    → take count (drop at other) ≡ take count (drop at sheet)
take_kept at count next sheet other e kept =
    sym (drop-take at count other)
    ∙ ap (λ (n : ℕ). drop at (take n other)) (sym e)
    ∙ ap (drop at) kept
    ∙ ap (λ (n : ℕ). drop at (take n sheet)) e
    ∙ drop-take at count sheet

number_kept : (padding : Padding) (limit : ℕ) (sheet other : List ℕ) (at value next : ℕ) → decode_number padding limit sheet at ≡ parsed value next
    → take next other ≡ take next sheet
    → decode_number padding limit other at ≡ parsed value next
unfolding decode_number
number_kept padding limit sheet other at value next e kept = of_groups (groups_in 3 (drop at sheet)) refl e
  where
    -- the bytes of the number, and then those that follow in the other sheet
    own_bytes : (count : ℕ) → next ≡ at + count → drop at other ≡ take count (drop at sheet) ++ drop count (drop at other)
    own_bytes count offset =
        sym (take-append-drop count (drop at other))
        ∙ ap (λ (own : List ℕ). own ++ drop count (drop at other)) (take_kept at count next sheet other offset kept)

    of_groups : (found : Groups) → groups_in 3 (drop at sheet) ≡ found → decode_groups padding limit at found ≡ parsed value next
        → decode_groups padding limit at (groups_in 3 (drop at other)) ≡ parsed value next
    of_groups (terminated groups) are q =
        let is = judged padding limit at (value_of groups) (is_padded groups) (at + length groups) value next q in
        ap (λ (bytes : List ℕ). decode_groups padding limit at (groups_in 3 bytes)) (own_bytes (length groups) (sym is.offset))
        ∙ ap (decode_groups padding limit at) (groups_kept 3 (drop at sheet) (drop (length groups) (drop at other)) groups are)
        ∙ q
    of_groups truncated are q = absurd (refused_not_parsed q)
    of_groups overlong are q = absurd (refused_not_parsed q)

number_wider : (padding : Padding) (limit larger : ℕ) (sheet : List ℕ) (at value next : ℕ) → decode_number padding limit sheet at ≡ parsed value next
    → limit ≤ larger
    → decode_number padding larger sheet at ≡ parsed value next
unfolding decode_number
number_wider padding limit larger sheet at value next e wider = of_groups (groups_in 3 (drop at sheet)) e
  where
    of_groups : (found : Groups) → decode_groups padding limit at found ≡ parsed value next → decode_groups padding larger at found ≡ parsed value next
    of_groups (terminated groups) q =
        let is = judged padding limit at (value_of groups) (is_padded groups) (at + length groups) value next q in
        simp (is.taken, is.same, is.offset, le-leb value larger (omega (arith, is.small, is.same, wider)))
    of_groups truncated q = absurd (refused_not_parsed q)
    of_groups overlong q = absurd (refused_not_parsed q)

-- ---- A refusal carries the offset of its number.
number_refused : (padding : Padding) (limit : ℕ) (sheet : List ℕ) (at : ℕ) (reason : Refusal) → decode_number padding limit sheet at ≡ refused reason
    → RefusedAt at reason
unfolding decode_number
number_refused padding limit sheet at reason e = of_groups (groups_in 3 (drop at sheet)) e
  where
    with_number : (number : ℕ) → refuses_number number ≡ true → ◌≡◌ {A = Parsed ℕ} (refused (refusal_of 0 number at)) (refused reason)
        → RefusedAt at reason
    with_number number is q =
        let same : refusal_of 0 number at ≡ reason = cc in
        subst (RefusedAt at) same (record { carries = refl; refuses = is })

    of_value : (small taken : Bool) (value next : ℕ)
        → cond small (cond taken (parsed value next) (refused (refusal_of 0 19 at))) (refused (refusal_of 0 16 at)) ≡ refused reason
        → RefusedAt at reason
    of_value true true value next q = absurd (refused_not_parsed (sym q))
    of_value true false value next q = with_number 19 refl q
    of_value false taken value next q = with_number 16 refl q

    of_groups : (found : Groups) → decode_groups padding limit at found ≡ refused reason
        → RefusedAt at reason
    of_groups (terminated groups) q = of_value (leb (value_of groups) limit) (allows padding (is_padded groups)) (value_of groups) (at + length groups) q
    of_groups truncated q = with_number 15 refl q
    of_groups overlong q = with_number 16 refl q

-- Where padding is allowed, no number is refused for it.
pub allowed_never_19 : (limit : ℕ) (sheet : List ℕ) (at offset : ℕ) → decode_number allowed limit sheet at ≡ refused (refusal_of 0 19 offset) → ⊥
unfolding decode_number
allowed_never_19 limit sheet at offset e = of_groups (groups_in 3 (drop at sheet)) e
  where
    other_number_lem : (number : ℕ) → (number ≡ 19 → ⊥) → ◌≡◌ {A = Parsed ℕ} (refused (refusal_of 0 number at)) (refused (refusal_of 0 19 offset)) → ⊥
    other_number_lem number other q = let same : refusal_of 0 number at ≡ refusal_of 0 19 offset = cc in other (ap (λ (reason : Refusal). reason.number) same)

    of_value : (small : Bool) (value next : ℕ) → cond small (parsed value next) (refused (refusal_of 0 16 at)) ≡ refused (refusal_of 0 19 offset) → ⊥
    of_value true value next q = refused_not_parsed (sym q)
    of_value false value next q = other_number_lem 16 (λ same. omega (arith, same)) q

    of_groups : (found : Groups) → decode_groups allowed limit at found ≡ refused (refusal_of 0 19 offset) → ⊥
    of_groups (terminated groups) q = of_value (leb (value_of groups) limit) (value_of groups) (at + length groups) q
    of_groups truncated q = other_number_lem 15 (λ same. omega (arith, same)) q
    of_groups overlong q = other_number_lem 16 (λ same. omega (arith, same)) q

-- ---- A written number is read back.

-- how many numbers so many bytes can write
abbrev room : ℕ → ℕ
room zero = 1
room (suc most) = 128 * room most

-- groups whose highest is not zero are not padded, and neither is one group
highest_more : (group : ℕ) (groups : List ℕ) → 1 ≤ length groups → highest (group ∷ groups) ≡ highest groups
highest_more group [] some = absurd (omega (arith, some))
highest_more group (higher ∷ groups) some = refl

not-padded : (groups : List ℕ) → 1 ≤ highest groups → is_padded groups ≡ false
not-padded groups top = simp (ne_eqb (highest groups) 0 (λ none. omega (arith, top, none))) (and-false (ltb 1 (length groups)))
  where
    and-false : (first : Bool) → (first && false) ≡ false
    and-false true = refl
    and-false false = refl

-- the groups that a number's shortest form is read as: one for each byte, their value is the number, and they are not padded
record ReadBack (most value : ℕ) (rest : List ℕ) : Type 0 where
  groups : List ℕ
  found : groups_in most (shortest most value ++ rest) ≡ terminated groups
  same : value_of groups ≡ value
  long : length groups ≡ length (shortest most value)
  some : 1 ≤ length groups
  top : 1 ≤ value → 1 ≤ highest groups
  unpadded : is_padded groups ≡ false

shortest_read_back : (most value : ℕ) (rest : List ℕ) → value < room most → 1 ≤ value + most → ReadBack most value rest
shortest_read_back zero value rest h g = absurd (omega arith)
shortest_read_back (suc most) value rest h g =
    by_size (ltb value 128) refl (λ big. shortest_read_back most (value / 128) rest (omega arith) (omega arith))
  where
    by_size : (small : Bool) → ltb value 128 ≡ small → (128 ≤ value → ReadBack most (value / 128) rest) → ReadBack (suc most) value rest
    by_size true e later = record {
      groups = value ∷ [];
      found = simp e;
      same = omega arith;
      long = simp e;
      some = omega arith;
      top = λ positive. positive;
      unpadded = refl;
    }
    by_size false e later =
        let big : 128 ≤ value = ltb-false value 128 e in
        let back = later big in
        let low : (value % 128 + 128) % 128 ≡ value % 128 = omega arith in
        let high : 1 ≤ highest ((value % 128) ∷ back.groups) = omega (arith, highest_more (value % 128) back.groups back.some, back.top (omega (arith, big))) in
        record {
          groups = (value % 128) ∷ back.groups;
          found = simp (e, le-ltb (value % 128 + 128) 128 (omega arith), low, back.found);
          same = omega (arith, back.same);
          long = simp (e, back.long);
          some = omega arith;
          top = λ positive. high;
          unpadded = not-padded ((value % 128) ∷ back.groups) high;
        }

number_read_back : (padding : Padding) (limit value : ℕ) → value ≤ limit → limit ≤ max_number
    → ReadsBack (decode_number padding limit) (encode_number value) value
unfolding decode_number encode_number
number_read_back padding limit value h g sheet at next stands =
    let back = shortest_read_back 3 value (drop next sheet) (omega arith) (omega arith) in
    let offset : at + length back.groups ≡ next = omega (arith, back.long, stands.end) in
    simp (stands.content, back.found, back.same, le-leb value limit h, back.unpadded, offset) (ap (λ (taken : Bool). cond taken (parsed value next) (refused (refusal_of 0 19 at))) (allows_unpadded padding))
  where
    allows_unpadded : (is : Padding) → allows is false ≡ true
    allows_unpadded allowed = refl
    allows_unpadded barred = refl

pub numbers_lawful : (padding : Padding) → LawfulNumbers (decode_number padding)
numbers_lawful padding = record {
  read_back = number_read_back padding;
  small = λ limit sheet at value next e. (number_parsed padding limit sheet at value next e).small;
  moves = λ limit sheet at value next e. (number_parsed padding limit sheet at value next e).moved;
  no_longer = λ limit sheet at value next e. (number_parsed padding limit sheet at value next e).no_longer;
  bytes_after = number_kept padding;
  larger_limit = number_wider padding;
  own_offset = number_refused padding;
}

-- ---- Where padding is barred, nothing but the shortest form is read.

value_positive : (groups : List ℕ) → 1 ≤ highest groups → 1 ≤ value_of groups
value_positive [] top = top
value_positive (group ∷ []) top = omega arith
value_positive (group ∷ (higher ∷ groups)) top = omega (arith, value_positive (higher ∷ groups) top)

-- two groups or more that are not padded have a highest group that is not zero
highest_positive : (group higher : ℕ) (groups : List ℕ) → is_padded (group ∷ (higher ∷ groups)) ≡ false → 1 ≤ highest (higher ∷ groups)
highest_positive group higher groups unpadded = by_highest (highest (higher ∷ groups)) refl
  where
    more_than_one : ltb 1 (suc (suc (length groups))) ≡ true
    more_than_one = lt-ltb 1 (suc (suc (length groups))) (omega arith)

    by_highest : (n : ℕ) → highest (higher ∷ groups) ≡ n → 1 ≤ highest (higher ∷ groups)
    by_highest zero is =
        let both : (true && eqb 0 0) ≡ false = simp (more_than_one, is) at unpadded in
        let z : ◌≡◌ {A = ℕ} 0 1 = cc in
        absurd (omega arith)
    by_highest (suc n) is = omega arith

-- the bytes of terminated groups that are not padded are the shortest form of their value
record ShortestForm (most : ℕ) (bytes groups : List ℕ) : Type 0 where
  content : bytes ≡ shortest most (value_of groups) ++ drop (length groups) bytes
  long : length groups ≡ length (shortest most (value_of groups))

groups_exact : (most : ℕ) (bytes groups : List ℕ) → IsBytes bytes → groups_in most bytes ≡ terminated groups → is_padded groups ≡ false
    → ShortestForm most bytes groups
groups_exact zero bytes groups are e unpadded = absurd (overlong_not_terminated e)
groups_exact (suc most) [] groups are e unpadded = absurd (truncated_not_terminated e)
groups_exact (suc most) (byte ∷ bytes) groups are e unpadded =
    by_byte (ltb byte 128) refl (groups_in most bytes) refl (λ more. groups_exact most bytes more (λ j. are (suc j))) e
  where
    one_byte : ltb byte 128 ≡ true → ShortestForm (suc most) (byte ∷ bytes) (byte ∷ [])
    one_byte is = let same : byte + 128 * 0 ≡ byte = omega arith in record { content = simp (same, is); long = simp (same, is) }

    more_bytes : ltb byte 128 ≡ false → (higher : ℕ) (more : List ℕ) → 1 ≤ highest (higher ∷ more) → ShortestForm most bytes (higher ∷ more)
        → ShortestForm (suc most) (byte ∷ bytes) ((byte % 128) ∷ (higher ∷ more))
    more_bytes is higher more top rest =
        let positive : 1 ≤ value_of (higher ∷ more) = value_positive (higher ∷ more) top in
        let big : 128 ≤ byte = ltb-false byte 128 is in
        let small : byte < 256 = are 0 in
        let value : ℕ = byte % 128 + 128 * value_of (higher ∷ more) in
        let over : ltb value 128 ≡ false = le-ltb value 128 (omega arith) in
        let low : value % 128 + 128 ≡ byte = omega arith in
        let high : value / 128 ≡ value_of (higher ∷ more) = omega arith in
        record { content = simp (over, low, high) (ap (λ (later : List ℕ). byte ∷ later) rest.content); long = simp (over, high) (ap suc rest.long) }

    by_groups : ltb byte 128 ≡ false → (more : List ℕ) → groups_in most bytes ≡ terminated more → (byte % 128) ∷ more ≡ groups
        → (is_padded more ≡ false → ShortestForm most bytes more)
        → ShortestForm (suc most) (byte ∷ bytes) groups
    by_groups is [] found all rest = absurd (omega (arith, (subst (Taken most (length bytes)) found (groups_taken most bytes)).0))
    by_groups is (higher ∷ more) found all rest =
        let top : 1 ≤ highest (higher ∷ more) = highest_positive (byte % 128) higher more (ap is_padded all ∙ unpadded) in
        subst (ShortestForm (suc most) (byte ∷ bytes)) all (more_bytes is higher more top (rest (not-padded (higher ∷ more) top)))

    by_byte : (last : Bool) → ltb byte 128 ≡ last → (found : Groups) → groups_in most bytes ≡ found
        → ((more : List ℕ) → groups_in most bytes ≡ terminated more → is_padded more ≡ false → ShortestForm most bytes more)
        → cond last (terminated (byte ∷ [])) (prepend (byte % 128) found) ≡ terminated groups
        → ShortestForm (suc most) (byte ∷ bytes) groups
    by_byte true is found are-found later q =
        let one : byte ∷ [] ≡ groups = cc in
        subst (ShortestForm (suc most) (byte ∷ bytes)) one (one_byte is)
    by_byte false is (terminated more) are-found later q =
        let all : (byte % 128) ∷ more ≡ groups = cc in
        by_groups is more are-found all (later more are-found)
    by_byte false is truncated are-found later q = absurd (truncated_not_terminated q)
    by_byte false is overlong are-found later q = absurd (overlong_not_terminated q)

pub shortest_numbers_exact : ExactNumbers (decode_number barred)
unfolding decode_number encode_number
shortest_numbers_exact limit sheet at value next are e = of_groups (groups_in 3 (drop at sheet)) refl e
  where
    unpadded : (padded : Bool) → not padded ≡ true → padded ≡ false
    unpadded true is = let z : ◌≡◌ {A = ℕ} 0 1 = cc in absurd (omega arith)
    unpadded false is = refl

    are_after : IsBytes (drop at sheet)
    are_after j = omega (arith, get_or-drop at sheet j 0, are (at + j))

    of_groups : (found : Groups) → groups_in 3 (drop at sheet) ≡ found → decode_groups barred limit at found ≡ parsed value next
        → Stands (shortest 3 value) sheet at next
    of_groups (terminated groups) found q =
        let is = judged barred limit at (value_of groups) (is_padded groups) (at + length groups) value next q in
        let form = groups_exact 3 (drop at sheet) groups are_after found (unpadded (is_padded groups) is.taken) in
        let written : shortest 3 (value_of groups) ≡ shortest 3 value = ap (shortest 3) is.same in
        let after : drop (length groups) (drop at sheet) ≡ drop next sheet = drop-drop (length groups) at sheet ∙ ap (λ (n : ℕ). drop n sheet) is.offset in
        record {
          content = form.content ∙ ap (λ (bytes : List ℕ). bytes ++ drop (length groups) (drop at sheet)) written ∙ ap (λ (rest : List ℕ). shortest 3 value ++ rest) after;
          end = omega (arith, is.offset, form.long, ap length written);
        }
    of_groups truncated found q = absurd (refused_not_parsed q)
    of_groups overlong found q = absurd (refused_not_parsed q)
