-- Each step of reading a value on, and how far it was read.
use Rattle.std.proofs.Common.{◌≡◌, ◌≢◌, ℕ, zero, suc, ◌+◌, ◌-◌, ◌≤◌, true, false, List, [], ◌∷◌, ◌++◌, length, drop, Option, Some, None}
use Rattle.std.proofs.Common.{IfSome, Result, Ok, Err, refl, sym, ap, subst, ◌∙◌, append_assoc, append-nil, add-one, arith}
use Rattle.std.proofs.lemmas.List.{drop-drop, drop-append-le, length-append, length-drop}
use Rattle.ferry_msgpack.specs.declared.fault.PackFault.{PackFault}
use Rattle.ferry_msgpack.specs.declared.fault.PackFault.TheVariants.{Short}
use Rattle.ferry_msgpack.specs.Tree.{Tree, nil, raw, Items, no_items, item, has_key, put}
use Rattle.ferry_msgpack.specs.First.{Count, First, no_value, nil_value, flag_value, small_number, unsigned_number, signed_number, raw_value, array_value}
use Rattle.ferry_msgpack.specs.First.{map_value}
use Rattle.ferry_msgpack.specs.Spelling.{SpellsRaw, SpellsWithin, spells_nil, spells_flag, spells_small, spells_unsigned, spells_signed, spells_bytes}
use Rattle.ferry_msgpack.specs.Spelling.{spells_array, spells_map}
use Rattle.ferry_msgpack.specs.Reading.{◌>>=◌, first_of, flat_by, value_at, items_at, key_at, key_by, raw_at, count_at}
use Rattle.ferry_msgpack.specs.View.{pairs_view}
use Rattle.ferry_msgpack.proofs.FieldLemmas.{key_again}
use Rattle.ferry_msgpack.proofs.Places.{reading_tells}
use Rattle.ferry_item.specs.declared.progress.Level.{Level}
use Rattle.ferry_item.specs.declared.progress.Level.TheVariants.{Values, Pairs}
use Rattle.ferry_item.specs.declared.progress.Progress.{Progress}
use Rattle.ferry_item.specs.Progress.{BeginsWith, is_flat, is_raw, rest_of, behind_level, behind_all, Lacks, Follows, IsAhead}
use Rattle.ferry_item.proofs.LevelLemmas.{Names, value_more, count_more, key_more, flat_first, flat_depth, values_done, value_passed, value_short, array_opened}
use Rattle.ferry_item.proofs.LevelLemmas.{array_short, map_opened, map_short, names_done, name_passed, name_short, lacks_done, lacks_short, lacks_same}
use Rattle.ferry_item.proofs.LevelLemmas.{lacks_opened}

-- ---- the steps inside a list of values

pub values_passed : (levels : List Level) (depth left : ℕ) (bytes : List ℕ) → left ≡ 0 → Follows (levels ++ Values depth left ∷ []) bytes levels bytes
unfolding Follows
values_passed levels depth left bytes none = λ more lacks.
    lacks_done levels (Values depth left) (bytes ++ more) (bytes ++ more)
    (ap (λ (n : ℕ). behind_level (Values depth n) (bytes ++ more)) none ∙ values_done depth (bytes ++ more)) lacks

no_value_at : (depth : ℕ) → value_at depth [] ≡ Err Short
unfolding value_at
no_value_at depth = refl

pub value_missing : (levels : List Level) (depth left : ℕ) (bytes : List ℕ) → left ≢ 0 → length bytes ≡ 0 → Lacks (levels ++ Values depth left ∷ []) bytes
value_missing levels depth zero bytes some none = absurd (some refl)
value_missing levels depth (suc n) [] some none = lacks_short levels (Values depth (suc n)) [] (value_short depth n [] (no_value_at depth))
value_missing levels depth (suc n) (b ∷ bytes) some none = absurd (omega (arith, none))

pub flat_goes : (levels : List Level) (depth left : ℕ) (bytes : List ℕ) (t : Tree) (rest : List ℕ) → left ≢ 0
    → BeginsWith bytes (λ first. is_flat first ≡ true) → value_at 64 bytes ≡ Ok (t, rest)
    → Follows (levels ++ Values depth left ∷ []) bytes (levels ++ Values depth (left - 1) ∷ []) rest
unfolding Follows
flat_goes levels depth zero bytes t rest some flat is = absurd (some refl)
flat_goes levels depth (suc n) [] t rest some flat is = absurd flat
flat_goes levels depth (suc n) (b ∷ bytes) t rest some flat is =
    let e : suc n - 1 ≡ n = omega arith in
    rw e (λ more lacks. lacks_same levels (Values depth (suc n)) (b ∷ (bytes ++ more)) (Values depth n) (rest ++ more)
    (value_passed depth n (b ∷ (bytes ++ more)) t (rest ++ more) (flat_depth depth 64 b (bytes ++ more) flat ∙ value_more 64 (b ∷ bytes) t rest more is)) lacks)

pub flat_lacks : (levels : List Level) (depth left : ℕ) (bytes : List ℕ) → left ≢ 0 → BeginsWith bytes (λ first. is_flat first ≡ true)
    → value_at 64 bytes ≡ Err Short → Lacks (levels ++ Values depth left ∷ []) bytes
flat_lacks levels depth zero bytes some flat is = absurd (some refl)
flat_lacks levels depth (suc n) [] some flat is = absurd flat
flat_lacks levels depth (suc n) (b ∷ bytes) some flat is =
    lacks_short levels (Values depth (suc n)) (b ∷ bytes) (value_short depth n (b ∷ bytes) (flat_depth depth 64 b bytes flat ∙ is))

-- a count stands behind the first byte, after which so many bytes are passed
abbrev CountsBehind : Count → ℕ → ℕ → List ℕ → Type 0
CountsBehind c n k bytes = (k ≤ length bytes) × (count_at c bytes ≡ Ok (n, drop k bytes))

pub array_goes : (levels : List Level) (depth left : ℕ) (bytes after : List ℕ) (c : Count) (n k : ℕ) → depth ≢ 0 → left ≢ 0
    → BeginsWith bytes (λ first. first ≡ array_value c) → after ≡ drop 1 bytes → (k ≤ length after) × (count_at c after ≡ Ok (n, drop k after))
    → (k + 1 ≤ length bytes) × Follows (levels ++ Values depth left ∷ []) bytes ((levels ++ Values depth (left - 1) ∷ []) ++ Values (depth - 1) n ∷ [])
    (drop (k + 1) bytes)
unfolding Follows
array_goes levels zero left bytes after c n k inner some head behind counted = absurd (inner refl)
array_goes levels (suc d) zero bytes after c n k inner some head behind counted = absurd (some refl)
array_goes levels (suc d) (suc m) [] after c n k inner some head behind counted = absurd head
array_goes levels (suc d) (suc m) (b ∷ bytes) after c n k inner some head behind counted =
    let told = subst (CountsBehind c n k) behind counted in
    let e : suc m - 1 ≡ m = omega arith in
    let f : suc d - 1 ≡ d = omega arith in
    rw (e, f, add-one) (
      omega (arith, told.0),
      λ more lacks.
          lacks_opened levels (Values (suc d) (suc m)) (b ∷ (bytes ++ more)) (Values (suc d) m) (Values d n) (drop k bytes ++ more)
          (array_opened d m b (bytes ++ more) c n (drop k bytes ++ more) head (count_more c bytes n (drop k bytes) more told.1)) lacks,
    )

pub array_lacks : (levels : List Level) (depth left : ℕ) (bytes after : List ℕ) (c : Count) → depth ≢ 0 → left ≢ 0
    → BeginsWith bytes (λ first. first ≡ array_value c) → after ≡ drop 1 bytes → count_at c after ≡ Err Short → Lacks (levels ++ Values depth left ∷ []) bytes
array_lacks levels zero left bytes after c inner some head behind short = absurd (inner refl)
array_lacks levels (suc d) zero bytes after c inner some head behind short = absurd (some refl)
array_lacks levels (suc d) (suc m) [] after c inner some head behind short = absurd head
array_lacks levels (suc d) (suc m) (b ∷ bytes) after c inner some head behind short =
    lacks_short levels (Values (suc d) (suc m)) (b ∷ bytes) (value_short (suc d) m (b ∷ bytes) (array_short d b bytes c head
    (sym (ap (count_at c) behind) ∙ short)))

pub map_goes : (levels : List Level) (depth left : ℕ) (bytes after : List ℕ) (c : Count) (n k : ℕ) (names : Names) → depth ≢ 0 → left ≢ 0
    → BeginsWith bytes (λ first. first ≡ map_value c) → after ≡ drop 1 bytes → (k ≤ length after) × (count_at c after ≡ Ok (n, drop k after))
    → names.entries ≡ []
    → (k + 1 ≤ length bytes) × Follows (levels ++ Values depth left ∷ []) bytes ((levels ++ Values depth (left - 1) ∷ []) ++ Pairs (depth - 1) n names ∷ [])
    (drop (k + 1) bytes)
unfolding Follows
map_goes levels zero left bytes after c n k names inner some head behind counted none = absurd (inner refl)
map_goes levels (suc d) zero bytes after c n k names inner some head behind counted none = absurd (some refl)
map_goes levels (suc d) (suc m) [] after c n k names inner some head behind counted none = absurd head
map_goes levels (suc d) (suc m) (b ∷ bytes) after c n k names inner some head behind counted none =
    let told = subst (CountsBehind c n k) behind counted in
    let e : suc m - 1 ≡ m = omega arith in
    let f : suc d - 1 ≡ d = omega arith in
    rw (e, f, add-one) (
      omega (arith, told.0),
      λ more lacks.
          lacks_opened levels (Values (suc d) (suc m)) (b ∷ (bytes ++ more)) (Values (suc d) m) (Pairs d n names) (drop k bytes ++ more)
          (map_opened d m b (bytes ++ more) c n (drop k bytes ++ more) names head (count_more c bytes n (drop k bytes) more told.1) (ap pairs_view none)) lacks,
    )

pub map_lacks : (levels : List Level) (depth left : ℕ) (bytes after : List ℕ) (c : Count) → depth ≢ 0 → left ≢ 0
    → BeginsWith bytes (λ first. first ≡ map_value c) → after ≡ drop 1 bytes → count_at c after ≡ Err Short → Lacks (levels ++ Values depth left ∷ []) bytes
map_lacks levels zero left bytes after c inner some head behind short = absurd (inner refl)
map_lacks levels (suc d) zero bytes after c inner some head behind short = absurd (some refl)
map_lacks levels (suc d) (suc m) [] after c inner some head behind short = absurd head
map_lacks levels (suc d) (suc m) (b ∷ bytes) after c inner some head behind short =
    lacks_short levels (Values (suc d) (suc m)) (b ∷ bytes) (value_short (suc d) m (b ∷ bytes) (map_short d b bytes c head
    (sym (ap (count_at c) behind) ∙ short)))

-- ---- the steps inside a list of pairs

pub names_passed : (levels : List Level) (depth left : ℕ) (names : Names) (bytes : List ℕ) → left ≡ 0
    → Follows (levels ++ Pairs depth left names ∷ []) bytes levels bytes
unfolding Follows
names_passed levels depth left names bytes none = λ more lacks.
    lacks_done levels (Pairs depth left names) (bytes ++ more) (bytes ++ more)
    (ap (λ (n : ℕ). behind_level (Pairs depth n names) (bytes ++ more)) none ∙ names_done depth names (bytes ++ more)) lacks

pub name_goes : (levels : List Level) (depth left : ℕ) (names later : Names) (bytes key rest : List ℕ) → left ≢ 0 → key_at bytes ≡ Ok (key, rest)
    → (has_key key (pairs_view names.entries) ≡ false) × (pairs_view later.entries ≡ put key nil (pairs_view names.entries))
    → Follows (levels ++ Pairs depth left names ∷ []) bytes ((levels ++ Pairs depth (left - 1) later ∷ []) ++ Values depth 1 ∷ []) rest
unfolding Follows
name_goes levels depth zero names later bytes key rest some named puts = absurd (some refl)
name_goes levels depth (suc n) names later bytes key rest some named puts =
    let e : suc n - 1 ≡ n = omega arith in
    rw e (λ more lacks. lacks_opened levels (Pairs depth (suc n) names) (bytes ++ more) (Pairs depth n later) (Values depth 1) (rest ++ more)
    (name_passed depth n names later (bytes ++ more) key (rest ++ more) (key_more bytes key rest more named) puts.0 puts.1) lacks)

pub name_lacks : (levels : List Level) (depth left : ℕ) (names : Names) (bytes : List ℕ) → left ≢ 0 → key_at bytes ≡ Err Short
    → Lacks (levels ++ Pairs depth left names ∷ []) bytes
name_lacks levels depth zero names bytes some is = absurd (some refl)
name_lacks levels depth (suc n) names bytes some is =
    lacks_short levels (Pairs depth (suc n) names) bytes (name_short depth n names bytes is)

-- ---- a name that is read as a value

raw_spelled : (d : ℕ) (t : Tree) (key front : List ℕ) → SpellsWithin d t front → t ≡ raw key → SpellsRaw key front
raw_spelled d t key front (spells_nil _ b row) e = absurd cc
raw_spelled d t key front (spells_flag _ b f row) e = absurd cc
raw_spelled d t key front (spells_small _ b z row) e = absurd cc
raw_spelled d t key front (spells_unsigned _ b w bytes row len) e = absurd cc
raw_spelled d t key front (spells_signed _ b w bytes row len) e = absurd cc
raw_spelled d t key front (spells_bytes _ content bytes spelled) e =
    let same : content ≡ key = cc in subst (λ (s : List ℕ). SpellsRaw s front) same spelled
raw_spelled d t key front (spells_array inner b c items count body row counts spelled) e = absurd cc
raw_spelled d t key front (spells_map inner b c n ps count body row counts spelled) e = absurd cc

pub name_is : (bytes : List ℕ) (t : Tree) (key rest : List ℕ) → value_at 64 bytes ≡ Ok (t, rest) → t ≡ raw key → key_at bytes ≡ Ok (key, rest)
name_is bytes t key rest is named =
    let told = reading_tells 64 bytes t rest is in
    ap key_at told.1 ∙ key_again key told.0 rest (raw_spelled 64 t key told.0 told.2 named)

abbrev raw_of : List ℕ × List ℕ → Result (Tree × List ℕ) PackFault
raw_of x = Ok (raw x.0, x.1)

content_short : (r : Result (List ℕ × List ℕ) PackFault) → (r >>= raw_of) ≡ Err Short → r ≡ Err Short
content_short (Ok x) e = absurd cc
content_short (Err f) e = let same : f ≡ Short = cc in ap (λ (g : PackFault). Err g) same

raw_flat : (first : First) → is_raw first ≡ true → is_flat first ≡ true
raw_flat no_value e = absurd cc
raw_flat nil_value e = absurd cc
raw_flat (flag_value f) e = absurd cc
raw_flat (small_number z) e = absurd cc
raw_flat (unsigned_number w) e = absurd cc
raw_flat (signed_number w) e = absurd cc
raw_flat (raw_value c) e = refl
raw_flat (array_value c) e = absurd cc
raw_flat (map_value c) e = absurd cc

raw_short : (first : First) (bytes : List ℕ) → is_raw first ≡ true → flat_by first bytes ≡ Err Short → key_by first bytes ≡ Err Short
raw_short no_value bytes e is = absurd cc
raw_short nil_value bytes e is = absurd cc
raw_short (flag_value f) bytes e is = absurd cc
raw_short (small_number z) bytes e is = absurd cc
raw_short (unsigned_number w) bytes e is = absurd cc
raw_short (signed_number w) bytes e is = absurd cc
raw_short (raw_value c) bytes e is = content_short (raw_at c bytes) is
raw_short (array_value c) bytes e is = absurd cc
raw_short (map_value c) bytes e is = absurd cc

key_by_first : (b : ℕ) (bytes : List ℕ) → key_at (b ∷ bytes) ≡ key_by (first_of b) bytes
unfolding key_at
key_by_first b bytes = refl

pub name_ends : (bytes : List ℕ) → BeginsWith bytes (λ first. is_raw first ≡ true) → value_at 64 bytes ≡ Err Short → key_at bytes ≡ Err Short
name_ends [] head is = absurd head
name_ends (b ∷ bytes) head is =
    key_by_first b bytes ∙ raw_short (first_of b) bytes head (sym (flat_first 64 b bytes (raw_flat (first_of b) head)) ∙ is)

pub no_name : (bytes : List ℕ) → length bytes ≡ 0 → key_at bytes ≡ Err Short
unfolding key_at
no_name [] none = refl
no_name (b ∷ bytes) none = absurd (omega (arith, none))

-- ---- how far a value was read

abbrev item_alone : Tree × List ℕ → Result (Items × List ℕ) PackFault
item_alone first = Ok (item first.0 no_items, first.1)

one_short : (r : Result (Tree × List ℕ) PackFault) → rest_of (r >>= item_alone) ≡ Err Short → r ≡ Err Short
one_short (Ok x) e = absurd cc
one_short (Err f) e = let same : f ≡ Short = cc in ap (λ (g : PackFault). Err g) same

-- nothing was read
pub ahead_begun : (bytes : List ℕ) → IsAhead bytes 0 (Values 64 1 ∷ [])
unfolding IsAhead Lacks behind_all behind_level items_at
ahead_begun bytes = (omega arith, λ more lacks. one_short (value_at 64 (bytes ++ more)) lacks)

pub ahead_within : (bytes : List ℕ) (seen : ℕ) (levels : List Level) → IsAhead bytes seen levels → seen ≤ length bytes
unfolding IsAhead
ahead_within bytes seen levels ahead = ahead.0

-- one step more was read
pub ahead_goes : (bytes : List ℕ) (seen passed : ℕ) (levels later : List Level) (after : List ℕ) → IsAhead bytes seen levels → after ≡ drop seen bytes
    → (passed ≤ length after) × Follows levels after later (drop passed after) → IsAhead bytes (seen + passed) later
unfolding IsAhead Follows
ahead_goes bytes seen passed levels later after ahead is goes =
    let place : drop passed after ≡ drop (seen + passed) bytes = ap (drop passed) is ∙ drop-drop passed seen bytes in (
      omega (arith, goes.0, ahead.0, ap length is, length-drop seen bytes),
      λ more lacks. ahead.1 more (subst (λ (s : List ℕ). Lacks levels (s ++ more)) is
          (goes.1 more (subst (λ (s : List ℕ). Lacks later (s ++ more)) (sym place) lacks))),
    )

-- where the levels lack bytes, the value does
pub ahead_short : (bytes : List ℕ) (seen : ℕ) (levels : List Level) (after : List ℕ) → IsAhead bytes seen levels → after ≡ drop seen bytes → Lacks levels after
    → value_at 64 bytes ≡ Err Short
unfolding IsAhead
ahead_short bytes seen levels after ahead is lacks =
    ap (value_at 64) (sym (append-nil bytes)) ∙ ahead.1 [] (subst (Lacks levels) (is ∙ sym (append-nil (drop seen bytes))) lacks)

-- more bytes came
pub ahead_more : (bytes piece : List ℕ) (seen : ℕ) (levels : List Level) → IsAhead bytes seen levels → IsAhead (bytes ++ piece) seen levels
unfolding IsAhead
ahead_more bytes piece seen levels ahead = (
  omega (arith, ahead.0, length-append bytes piece),
  λ more lacks.
      let behind : drop seen (bytes ++ piece) ++ more ≡ drop seen bytes ++ (piece ++ more) =
      ap (λ (s : List ℕ). s ++ more) (drop-append-le seen bytes piece ahead.0) ∙ append_assoc (drop seen bytes) piece more in
      ap (value_at 64) (append_assoc bytes piece more) ∙ ahead.1 (piece ++ more) (subst (Lacks levels) behind lacks),
)

-- the same where there may be no progress
pub kept_more : (progress : Option Progress) (bytes piece all : List ℕ) → IfSome progress (λ p. IsAhead bytes p.seen p.levels.items) → all ≡ bytes ++ piece
    → IfSome progress (λ p. IsAhead all p.seen p.levels.items)
kept_more None bytes piece all ahead is = tt
kept_more (Some p) bytes piece all ahead is =
    subst (λ (s : List ℕ). IsAhead s p.seen p.levels.items) (sym is) (ahead_more bytes piece p.seen p.levels.items ahead)
