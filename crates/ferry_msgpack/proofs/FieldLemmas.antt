-- Numbers, counts, raws and keys: what is read is spelled so, what is spelled so is read, and each fault is the first broken rule.
use Rattle.std.proofs.Common.{◌≡◌, ℕ, ◌<◌, false, ltb, List, [], ◌∷◌, ◌++◌, length, take, Result, Ok, Err, refl, sym, ap, subst, ◌∙◌, append_assoc, arith, inl}
use Rattle.std.proofs.Common.{inr}
use Rattle.std.specs.Int.{Width, byte_len, from_be_bytes}
use Rattle.std.proofs.lemmas.Bool.{cases_lt, le-ltb, lt-ltb}
use Rattle.std.proofs.lemmas.List.{take_at, drop_at, take-append-drop, length-append, length-take}
use Rattle.ferry_msgpack.specs.declared.fault.PackFault.{PackFault}
use Rattle.ferry_msgpack.specs.declared.fault.PackFault.TheVariants.{Short, Key}
use Rattle.ferry_msgpack.specs.First.{Count, given, behind, First, no_value, nil_value, flag_value, small_number, unsigned_number, signed_number, raw_value}
use Rattle.ferry_msgpack.specs.First.{array_value, map_value, Row}
use Rattle.ferry_msgpack.specs.Spelling.{Counts, SpellsRaw, spells_raw}
use Rattle.ferry_msgpack.specs.Faults.{CountEnds, RawEnds, ends_in_length, ends_in_content, IsOtherValue, BreaksKey, key_missing, key_refused, key_not_raw}
use Rattle.ferry_msgpack.specs.Faults.{key_ends}
use Rattle.ferry_msgpack.specs.Reading.{◌>>=◌, first_of, number_at, count_at, content_at, raw_at, key_by, key_at}
use Rattle.ferry_msgpack.proofs.FirstLemmas.{first_of-Row, Row-first_of}

-- ---- numbers of a width

abbrev pub TellsNumber : Width → List ℕ → Result (ℕ × List ℕ) PackFault → Type 0
TellsNumber w bytes (Ok x) = (front : List ℕ) × (bytes ≡ front ++ x.1) × (x.0 ≡ from_be_bytes w front) × (length front ≡ byte_len w)
TellsNumber w bytes (Err f) = (f ≡ Short) × (length bytes < byte_len w)

pub number_tells : (w : Width) (bytes : List ℕ) → TellsNumber w bytes (number_at w bytes)
unfolding number_at
number_tells w bytes =
    elim (cases_lt (length bytes) (byte_len w)) [
      | inl lt ↦ rw (lt-ltb (length bytes) (byte_len w) lt) (refl, lt)
      | inr le ↦ rw (le-ltb (length bytes) (byte_len w) le) (
        take (byte_len w) bytes,
        sym (take-append-drop (byte_len w) bytes),
        refl,
        omega
            (arith, length-take (byte_len w) bytes),
      )
    ]

pub number_again : (w : Width) (front rest : List ℕ) → length front ≡ byte_len w → number_at w (front ++ rest) ≡ Ok (from_be_bytes w front, rest)
unfolding number_at
number_again w front rest len =
    let long : ltb (length (front ++ rest)) (byte_len w) ≡ false = le-ltb _ _ (omega (arith, length-append front rest)) in
    rw (long, take_at front rest (byte_len w) len, drop_at front rest (byte_len w) len) refl

pub number_short : (w : Width) (bytes : List ℕ) → length bytes < byte_len w → number_at w bytes ≡ Err Short
unfolding number_at
number_short w bytes lt = rw (lt-ltb (length bytes) (byte_len w) lt) refl

-- ---- counts

abbrev pub TellsCount : Count → List ℕ → Result (ℕ × List ℕ) PackFault → Type 0
TellsCount c bytes (Ok x) = (front : List ℕ) × (bytes ≡ front ++ x.1) × Counts c x.0 front
TellsCount c bytes (Err f) = (f ≡ Short) × CountEnds c bytes

count_from : (w : Width) (bytes : List ℕ) (r : Result (ℕ × List ℕ) PackFault) → TellsNumber w bytes r → TellsCount (behind w) bytes r
count_from w bytes (Ok x) told = (told.0, told.1, (told.2, told.3))
count_from w bytes (Err f) told = told

pub count_tells : (c : Count) (bytes : List ℕ) → TellsCount c bytes (count_at c bytes)
unfolding count_at
count_tells (given n) bytes = ([], refl, (refl, refl))
count_tells (behind w) bytes = count_from w bytes (number_at w bytes) (number_tells w bytes)

pub count_again : (c : Count) (n : ℕ) (front rest : List ℕ) → Counts c n front → count_at c (front ++ rest) ≡ Ok (n, rest)
unfolding count_at
count_again (given m) n front rest h = rw (h.0, h.1) refl
count_again (behind w) n front rest h = rw h.0 (number_again w front rest h.1)

pub count_short : (c : Count) (bytes : List ℕ) → CountEnds c bytes → count_at c bytes ≡ Err Short
unfolding count_at
count_short (given m) bytes h = absurd h
count_short (behind w) bytes h = number_short w bytes h

-- ---- raws behind their first byte

abbrev pub TellsRaw : Count → List ℕ → Result (List ℕ × List ℕ) PackFault → Type 0
TellsRaw c bytes (Ok x) = (count : List ℕ) × (bytes ≡ count ++ (x.0 ++ x.1)) × Counts c (length x.0) count
TellsRaw c bytes (Err f) = (f ≡ Short) × RawEnds c bytes

content_tells : (c : Count) (bytes : List ℕ) (n : ℕ) (rest count : List ℕ) → bytes ≡ count ++ rest → Counts c n count → TellsRaw c bytes (content_at n rest)
unfolding content_at
content_tells c bytes n rest count parts counts =
    elim (cases_lt (length rest) n) [
      | inl lt ↦ rw (lt-ltb (length rest) n lt) (refl, subst (RawEnds c) (sym parts) (ends_in_content c n count rest counts lt))
      | inr le ↦
          let len : n ≡ length (take n rest) = omega (arith, length-take n rest) in
          rw (le-ltb (length rest) n le) (
            count,
            parts ∙ ap (λ (x : List ℕ). count
                ++ x) (sym (take-append-drop n rest)),
            subst (λ (m : ℕ). Counts c m count) len counts,
          )
    ]

raw_from : (c : Count) (bytes : List ℕ) (r : Result (ℕ × List ℕ) PackFault) → TellsCount c bytes r → TellsRaw c bytes (r >>= λ n. content_at n.0 n.1)
raw_from c bytes (Ok x) told = content_tells c bytes x.0 x.1 told.0 told.1 told.2
raw_from c bytes (Err f) told = (told.0, ends_in_length c bytes told.1)

pub raw_tells : (c : Count) (bytes : List ℕ) → TellsRaw c bytes (raw_at c bytes)
unfolding raw_at
raw_tells c bytes = raw_from c bytes (count_at c bytes) (count_tells c bytes)

pub raw_again : (c : Count) (count content rest : List ℕ) → Counts c (length content) count → raw_at c (count ++ (content ++ rest)) ≡ Ok (content, rest)
unfolding raw_at content_at
raw_again c count content rest counts =
    let long : ltb (length (content ++ rest)) (length content) ≡ false = le-ltb _ _ (omega (arith, length-append content rest)) in
    rw (
      count_again c (length content) count (content ++ rest) counts,
      long,
      take_at content rest (length content) refl,
      drop_at content rest
          (length content) refl,
    ) refl

pub raw_short : (c : Count) (bytes : List ℕ) → RawEnds c bytes → raw_at c bytes ≡ Err Short
unfolding raw_at content_at
raw_short c bytes (ends_in_length _ _ h) = rw (count_short c bytes h) refl
raw_short c bytes (ends_in_content _ n count rest counts lt) = rw (count_again c n count rest counts, lt-ltb (length rest) n lt) refl

-- ---- keys

abbrev pub TellsKey : List ℕ → Result (List ℕ × List ℕ) PackFault → Type 0
TellsKey bytes (Ok x) = (front : List ℕ) × (bytes ≡ front ++ x.1) × SpellsRaw x.0 front
TellsKey bytes (Err f) = BreaksKey bytes f

raw_key : (b : ℕ) (c : Count) (bytes : List ℕ) (r : Result (List ℕ × List ℕ) PackFault) → Row b (raw_value c) → TellsRaw c bytes r → TellsKey (b ∷ bytes) r
raw_key b c bytes (Ok x) row told =
    (b ∷ (told.0 ++ x.0), ap (λ (s : List ℕ). b ∷ s) (told.1 ∙ sym (append_assoc told.0 x.0 x.1)), spells_raw b c told.0 x.0 row told.2)
raw_key b c bytes (Err f) row told = rw told.0 (key_ends b c bytes row told.1)

key_from : (b : ℕ) (bytes : List ℕ) (first : First) → Row b first → TellsKey (b ∷ bytes) (key_by first bytes)
key_from b bytes no_value row = key_refused b bytes row
key_from b bytes nil_value row = key_not_raw b _ bytes row tt
key_from b bytes (flag_value f) row = key_not_raw b _ bytes row tt
key_from b bytes (small_number z) row = key_not_raw b _ bytes row tt
key_from b bytes (unsigned_number w) row = key_not_raw b _ bytes row tt
key_from b bytes (signed_number w) row = key_not_raw b _ bytes row tt
key_from b bytes (raw_value c) row = raw_key b c bytes (raw_at c bytes) row (raw_tells c bytes)
key_from b bytes (array_value c) row = key_not_raw b _ bytes row tt
key_from b bytes (map_value c) row = key_not_raw b _ bytes row tt

pub key_tells : (bytes : List ℕ) → TellsKey bytes (key_at bytes)
unfolding key_at
key_tells [] = key_missing
key_tells (b ∷ bytes) = key_from b bytes (first_of b) (Row-first_of b)

pub key_again : (key front rest : List ℕ) → SpellsRaw key front → key_at (front ++ rest) ≡ Ok (key, rest)
unfolding key_at
key_again key front rest (spells_raw b c count _ row counts) =
    rw (first_of-Row b (raw_value c) row, append_assoc count key rest) (raw_again c count key rest counts)

other_key : (first : First) (bytes : List ℕ) → IsOtherValue first → key_by first bytes ≡ Err Key
other_key no_value bytes h = absurd h
other_key nil_value bytes h = refl
other_key (flag_value f) bytes h = refl
other_key (small_number z) bytes h = refl
other_key (unsigned_number w) bytes h = refl
other_key (signed_number w) bytes h = refl
other_key (raw_value c) bytes h = absurd h
other_key (array_value c) bytes h = refl
other_key (map_value c) bytes h = refl

pub key_breaks : (bytes : List ℕ) (f : PackFault) → BreaksKey bytes f → key_at bytes ≡ Err f
unfolding key_at
key_breaks bytes f key_missing = refl
key_breaks bytes f (key_refused b rest row) = rw (first_of-Row b no_value row) refl
key_breaks bytes f (key_not_raw b first rest row other) = rw (first_of-Row b first row) (other_key first rest other)
key_breaks bytes f (key_ends b c rest row h) = rw (first_of-Row b (raw_value c) row) (raw_short c rest h)
