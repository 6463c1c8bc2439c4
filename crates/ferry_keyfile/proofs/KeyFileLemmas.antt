-- What a key file means, by its parts.
use Rattle.std.proofs.Common.{◌≡◌, ◌≢◌, ◌⊎◌, ◌↔◌, ℕ, ◌+◌, ◌<◌, ◌≤◌, ◌==◌, ◌&&◌, Bool, true, false, not, nat_eq, List, [], ◌∷◌, ◌++◌, length, take, drop}
use Rattle.std.proofs.Common.{get_or, filter, Option, Some, None, Result, Ok, Err, refl, ap, sym, ◌∙◌}
use Rattle.std.proofs.Common.{inl, inr, arith, if◌then◌else◌, drop-cons, option_and_then, map, subst}
use Rattle.std.proofs.Math.ListN.{get_or-eq_default}
use Rattle.std.proofs.Math.Seq.{get_or-append_seam, drop-append-add}
use Rattle.std.proofs.lemmas.Bool.{cases_lt, eqb-true}
use Rattle.std.proofs.lemmas.List.{append_assoc, append-nil, drop-drop, take-append-drop, take_at, take_more, get_or-append-add}
use Rattle.std.proofs.lemmas.List.Elements.{filter-append}
use Rattle.std.specs.Cmp.Lexicographic.{same_text, pointwise}
use Rattle.std.specs.List.{starts_with}
use Rattle.std.specs.Result.{result_ok}
use Rattle.ferry_config.proofs.BoolLemmas.{and_left, and_right}
use Rattle.hex.proofs.HexLemmas.{decode_sized-ok}
use Rattle.hex.specs.Hex.{decode_sized}
use Rattle.base64.specs.Engines.{standard}
use Rattle.base64.specs.GeneralPurpose.{decode_of}
use Rattle.ferry_keyfile.specs.KeyFile.{HasParts, SaysKeyFile, body_start, file_among, file_of, id_in, is_blank, key_file_of, key_in, mark, solid, some_bytes}
use Rattle.ferry_keyfile.specs.declared.file.KeyFile.{KeyFile}
use Rattle.ferry_keyfile.specs.declared.fault.KeyFileFault.{KeyFileFault}
use Rattle.ferry_keyfile.specs.declared.fault.KeyFileFault.TheVariants.{Header, Body}

-- ---- blanks

-- a byte that is no blank stays
pub solid_next : (text : List ℕ) (i : ℕ) → i < length text → is_blank (get_or text i 0) ≡ false
    → solid (take (i + 1) text) ≡ solid (take i text) ++ get_or text i 0 ∷ []
unfolding solid
solid_next text i within here =
    rw (take_more text i 0 within, filter-append (λ byte. not (is_blank byte)) (take i text) (get_or text i 0 ∷ []), here) refl

-- a blank is left out
pub solid_blank : (text : List ℕ) (i : ℕ) → i < length text → is_blank (get_or text i 0) ≡ true → solid (take (i + 1) text) ≡ solid (take i text)
unfolding solid
solid_blank text i within here =
    rw (take_more text i 0 within, filter-append (λ byte. not (is_blank byte)) (take i text) (get_or text i 0 ∷ []), here)
    (append-nil (filter (λ byte. not (is_blank byte)) (take i text)))

-- ---- the first line

-- what the test of the mark says
marked : (bytes : List ℕ) → starts_with nat_eq bytes mark ≡ true → bytes ≡ mark ++ drop 9 bytes
marked bytes e = sym (ap (λ k. k ++ drop 9 bytes) (same_text mark (take 9 bytes) (sym e)) ∙ take-append-drop 9 bytes)

-- a byte that isn't 0 is there
there : (bytes : List ℕ) (i byte : ℕ) → get_or bytes i 0 ≡ byte → 1 ≤ byte → i < length bytes
there bytes i byte e some =
    elim (cases_lt i (length bytes)) [
      | inl less ↦ less
      | inr not_less ↦ let zero : get_or bytes i 0 ≡ 0 = get_or-eq_default bytes 0 not_less in absurd (omega arith)
    ]

-- the text with its digits, where a byte stands behind them
split_at : (bytes : List ℕ) → starts_with nat_eq bytes mark ≡ true → bytes ≡ mark ++ (take 64 (drop 9 bytes) ++ drop 73 bytes)
split_at bytes e =
    marked bytes e ∙ ap (λ rest. mark ++ rest) (sym (take-append-drop 64 (drop 9 bytes)) ∙ ap (λ rest. take 64 (drop 9 bytes) ++ rest) (drop-drop 64 9 bytes))

-- the place behind the first line, by its tests
abbrev start_among : Bool → Bool → Bool → Option ℕ
start_among marked feed both = if not marked then None else if feed then Some 74 else if both then Some 75 else None

start_cases : (marked feed both : Bool) (start : ℕ) → start_among marked feed both ≡ Some start
    → (marked ≡ true) × (((feed ≡ true) × (start ≡ 74)) ⊎ ((both ≡ true) × (start ≡ 75)))
start_cases false feed both start e = cc
start_cases true true both start e = (refl, inl (refl, cc))
start_cases true false true start e = (refl, inr (refl, cc))
start_cases true false false start e = cc

-- the end of the first line, and what stands behind it
record HasEnd (bytes : List ℕ) (start : ℕ) : Type 0 where
  end : List ℕ
  ends : (end ≡ 10 ∷ []) ⊎ (end ≡ 13 ∷ 10 ∷ [])
  rest : drop 73 bytes ≡ end ++ drop start bytes

feed_end : (bytes : List ℕ) (start : ℕ) → get_or bytes 73 0 ≡ 10 → start ≡ 74 → HasEnd bytes start
feed_end bytes start feed e = record {
  end = 10 ∷ [];
  ends = inl refl;
  rest = drop-cons bytes 73 0 (there bytes 73 10 feed (omega arith)) ∙ ap (λ byte. byte ∷ drop 74 bytes) feed ∙ ap (λ n. 10 ∷ drop n bytes) (sym e);
}

return_end : (bytes : List ℕ) (start : ℕ) → get_or bytes 73 0 ≡ 13 → get_or bytes 74 0 ≡ 10 → start ≡ 75 → HasEnd bytes start
return_end bytes start return feed e =
    let first : drop 73 bytes ≡ 13 ∷ drop 74 bytes =
    drop-cons bytes 73 0 (there bytes 73 13 return (omega arith)) ∙ ap (λ byte. byte ∷ drop 74 bytes) return in
    let second : drop 74 bytes ≡ 10 ∷ drop 75 bytes =
    drop-cons bytes 74 0 (there bytes 74 10 feed (omega arith)) ∙ ap (λ byte. byte ∷ drop 75 bytes) feed in
    record {
      end = 13 ∷ 10 ∷ [];
      ends = inr refl;
      rest = first ∙ ap (λ rest. 13 ∷ rest) second ∙ ap (λ n. 13 ∷ 10 ∷ drop n bytes) (sym e);
    }

record HasStart (bytes : List ℕ) (start : ℕ) : Type 0 where
  marked : starts_with nat_eq bytes mark ≡ true
  ending : HasEnd bytes start

start_of : (bytes : List ℕ) (start : ℕ) → body_start bytes ≡ Some start → HasStart bytes start
unfolding body_start
start_of bytes start e =
    let found = start_cases (starts_with nat_eq bytes mark) (get_or bytes 73 0 == 10) ((get_or bytes 73 0 == 13) && (get_or bytes 74 0 == 10)) start e in
    record {
      marked = found.0;
      ending = elim found.1 [
        | inl feed ↦ feed_end bytes start (eqb-true (get_or bytes 73 0) 10 feed.0) feed.1
        | inr both ↦ return_end bytes start (eqb-true (get_or bytes 73 0) 13 (and_left (get_or bytes 73 0 == 13) (get_or bytes 74 0 == 10) both.0))
            (eqb-true (get_or bytes 74 0) 10 (and_right (get_or bytes 73 0 == 13) (get_or bytes 74 0 == 10) both.0)) both.1
      ];
    }

-- a result that is good
ok_of : {E : Type 0} (r : Result (List ℕ) E) (x : List ℕ) → result_ok r ≡ Some x → r ≡ Ok x
ok_of (Ok y) x e = ap Ok cc
ok_of (Err error) x e = cc

parts_of : (bytes id : List ℕ) (start : ℕ) → body_start bytes ≡ Some start → id_in bytes ≡ Some id → HasParts bytes id (drop start bytes)
unfolding id_in
parts_of bytes id start e says =
    let line = start_of bytes start e in
    record {
      digits = take 64 (drop 9 bytes);
      end = line.ending.end;
      parts = split_at bytes line.marked ∙ ap (λ rest. mark ++ (take 64 (drop 9 bytes) ++ rest)) line.ending.rest;
      says = ok_of (decode_sized (take 64 (drop 9 bytes)) 32) id says;
      ends = line.ending.ends;
    }

-- what the parts of a text say of it
record Means (bytes id body : List ℕ) : Type 0 where
  start : ℕ
  starts : body_start bytes ≡ Some start
  says : id_in bytes ≡ Some id
  behind : drop start bytes ≡ body

means_feed : (digits id body : List ℕ) → length digits ≡ 64 → decode_sized digits 32 ≡ Ok id → Means (mark ++ (digits ++ (10 ∷ body))) id body
unfolding body_start id_in
means_feed digits id body long says =
    let at_end : get_or (digits ++ 10 ∷ body) 64 0 ≡ 10 =
    ap (λ n. get_or (digits ++ 10 ∷ body) n 0) (sym long) ∙ get_or-append_seam digits 10 body 0 in
    let front : take 64 (digits ++ 10 ∷ body) ≡ digits = take_at digits (10 ∷ body) 64 long in
    let rest : drop 65 (digits ++ 10 ∷ body) ≡ body =
    ap (λ n. drop (n + 1) (digits ++ 10 ∷ body)) (sym long) ∙ drop-append-add digits (10 ∷ body) 1 in
    record {
      start = 74;
      starts = rw at_end refl;
      says = rw front (ap result_ok says);
      behind = rest;
    }

means_return : (digits id body : List ℕ) → length digits ≡ 64 → decode_sized digits 32 ≡ Ok id → Means (mark ++ (digits ++ (13 ∷ 10 ∷ body))) id body
unfolding body_start id_in
means_return digits id body long says =
    let tail = 13 ∷ 10 ∷ body in
    let at_end : get_or (digits ++ tail) 64 0 ≡ 13 =
    ap (λ n. get_or (digits ++ tail) n 0) (sym long) ∙ get_or-append_seam digits 13 (10 ∷ body) 0 in
    let behind_end : get_or (digits ++ tail) 65 0 ≡ 10 =
    ap (λ n. get_or (digits ++ tail) (n + 1) 0) (sym long) ∙ get_or-append-add digits tail 1 0 in
    let front : take 64 (digits ++ tail) ≡ digits = take_at digits tail 64 long in
    let rest : drop 66 (digits ++ tail) ≡ body =
    ap (λ n. drop (n + 2) (digits ++ tail)) (sym long) ∙ drop-append-add digits tail 2 in
    record {
      start = 75;
      starts = rw (at_end, behind_end) refl;
      says = rw front (ap result_ok says);
      behind = rest;
    }

means_of : (bytes id body : List ℕ) → HasParts bytes id body → Means bytes id body
means_of bytes id body parts =
    let long : length parts.digits ≡ 64 = decode_sized-ok parts.digits 32 id parts.says in
    elim parts.ends [
      | inl feed ↦
          let same : bytes ≡ mark ++ (parts.digits ++ (10 ∷ body)) = parts.parts ∙ ap (λ end. mark ++ (parts.digits ++ (end ++ body))) feed in
          subst (λ text. Means text id body) (sym same) (means_feed parts.digits id body long parts.says)
      | inr return ↦
          let same : bytes ≡ mark ++ (parts.digits ++ (13 ∷ 10 ∷ body)) =
          parts.parts ∙ ap (λ end. mark ++ (parts.digits ++ (end ++ body))) return in
          subst (λ text. Means text id body) (sym same) (means_return parts.digits id body long parts.says)
    ]

-- ---- what a text means

key_of : {E : Type 0} (r : Result (List ℕ) E) (key : List ℕ) → option_and_then some_bytes (result_ok r) ≡ Some key → (r ≡ Ok key) × (key ≢ [])
key_of (Err error) key e = cc
key_of (Ok []) key e = cc
key_of (Ok (byte ∷ rest)) key e = let same : byte ∷ rest ≡ key = cc in (ap Ok same, λ none. cc)

some_of : (key : List ℕ) → key ≢ [] → some_bytes key ≡ Some key
some_of [] some = absurd (some refl)
some_of (byte ∷ rest) some = refl

file_ok : (id : List ℕ) (key : Option (List ℕ)) (file : KeyFile) → file_of id key ≡ Ok file → (id ≡ file.id) × (key ≡ Some file.key)
file_ok id None file e = cc
file_ok id (Some key) file e =
    let same : record { id = id; key = key } ≡ file = cc in
    (ap (λ (f : KeyFile). f.id) same, ap (λ (f : KeyFile). Some f.key) same)

file_from : (bytes : List ℕ) (start : Option ℕ) (id : Option (List ℕ)) (file : KeyFile) → file_among bytes start id ≡ Ok file
    → (n : ℕ) × (start ≡ Some n) × (id ≡ Some file.id) × (key_in (drop n bytes) ≡ Some file.key)
file_from bytes None id file e = cc
file_from bytes (Some n) None file e = cc
file_from bytes (Some n) (Some id) file e =
    let parts = file_ok id (key_in (drop n bytes)) file e in
    (n, refl, ap Some parts.0, parts.1)

says_of : (bytes : List ℕ) (file : KeyFile) → key_file_of bytes ≡ Ok file → SaysKeyFile bytes file
unfolding key_file_of key_in
says_of bytes file e =
    let found = file_from bytes (body_start bytes) (id_in bytes) file e in
    let body = drop found.0 bytes in
    let key = key_of (decode_of standard (solid body)) file.key found.3 in
    record {
      body = body;
      parts = parts_of bytes file.id found.0 found.1 found.2;
      decodes = key.0;
      some = key.1;
    }

-- what a text with parts means
means_file : (bytes id body : List ℕ) → HasParts bytes id body → key_file_of bytes ≡ file_of id (key_in body)
unfolding key_file_of
means_file bytes id body parts =
    let means = means_of bytes id body parts in
    rw (means.starts, means.says, means.behind) refl

pub read_of : (bytes : List ℕ) (file : KeyFile) → SaysKeyFile bytes file → key_file_of bytes ≡ Ok file
unfolding key_in
read_of bytes file says =
    let key : key_in says.body ≡ Some file.key = rw says.decodes (some_of file.key says.some) in
    means_file bytes file.id says.body says.parts ∙ ap (file_of file.id) key

pub file_law : (bytes : List ℕ) (file : KeyFile) → (key_file_of bytes ≡ Ok file) ↔ SaysKeyFile bytes file
file_law bytes file = (says_of bytes file, read_of bytes file)

body_none : (id : List ℕ) (key : Option (List ℕ)) → file_of id key ≡ Err Body → key ≡ None
body_none id None e = refl
body_none id (Some key) e = cc

body_from : (bytes : List ℕ) (start : Option ℕ) (id : Option (List ℕ)) → file_among bytes start id ≡ Err Body
    → (n : ℕ) × (x : List ℕ) × (start ≡ Some n) × (id ≡ Some x) × (key_in (drop n bytes) ≡ None)
body_from bytes None id e = cc
body_from bytes (Some n) None e = cc
body_from bytes (Some n) (Some id) e = (n, id, refl, refl, body_none id (key_in (drop n bytes)) e)

pub body_law : (bytes : List ℕ) → (key_file_of bytes ≡ Err Body) ↔ ((id : List ℕ) × (body : List ℕ) × HasParts bytes id body × (key_in body ≡ None))
unfolding key_file_of
body_law bytes = (
  λ e. let found = body_from bytes (body_start bytes) (id_in bytes) e in
      (found.1, drop found.0 bytes, parts_of bytes found.1 found.0 found.2 found.3, found.4),
  λ h. means_file bytes h.0 h.1 h.2 ∙ ap (file_of h.0) h.3,
)

no_header : (id : List ℕ) (key : Option (List ℕ)) → file_of id key ≢ Err Header
no_header id None e = cc
no_header id (Some key) e = cc

header_from : (bytes : List ℕ) (start : Option ℕ) (id : Option (List ℕ)) → body_start bytes ≡ start → id_in bytes ≡ id
    → ((id body : List ℕ) → HasParts bytes id body → ⊥) → file_among bytes start id ≡ Err Header
header_from bytes None id starts says none = refl
header_from bytes (Some n) None starts says none = refl
header_from bytes (Some n) (Some id) starts says none = absurd (none id (drop n bytes) (parts_of bytes id n starts says))

pub header_law : (bytes : List ℕ) → (key_file_of bytes ≡ Err Header) ↔ ((id body : List ℕ) → HasParts bytes id body → ⊥)
unfolding key_file_of
header_law bytes = (
  λ e id body parts. no_header id (key_in body) (sym (means_file bytes id body parts) ∙ e),
  λ none. header_from bytes (body_start bytes) (id_in bytes) refl refl none,
)
