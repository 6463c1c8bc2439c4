-- Lemmas on what is live by the entries of a log.
use Rattle.std.proofs.Common.{◌≡◌, ◌≢◌, ◌⊎◌, inl, inr, ℕ, ◌-◌, Bool, true, false, cond, List, [], ◌∷◌, ◌++◌, filter, length, map, slice_get}
use Rattle.std.proofs.Common.{Option, Some, None, option_and_then, option_map, refl, sym, ◌∙◌, ap, arith}
use Rattle.std.proofs.lemmas.List.{append-nil, length-map, length_push}
use Rattle.std.proofs.lemmas.List.Elements.{filter-append}
use Rattle.std.proofs.lemmas.Option.{slice_get-map}
use Rattle.std.proofs.lemmas.Slice.Eq.{bytes_eq-Decides}
use Rattle.std.specs.Cmp.{eq_by_cmp_equiv}
use Rattle.std.specs.Cmp.Lexicographic.{nat_list_cmp_total}
use Rattle.std.specs.FinMap.{nat_cmp-IsAntisymmetric, slice_cmp-IsAntisymmetric}
use Rattle.std.specs.Ordering.{is_eq}
use Rattle.std.specs.Str.{bytes_eq}
use Rattle.std.specs.declared.cmp.Ordering.{Ordering}
use Rattle.std.specs.declared.cmp.Ordering.TheVariants.{Less, Equal, Greater}
use Rattle.ferry_log.specs.Live.{key_cmp, live_blob, names_key, naming, put_blob}
use Rattle.ferry_log.specs.Log.{Located}
use Rattle.ferry_segment.specs.Entry.{LogEntry, PutEntry, DeleteEntry, CommitEntry}
use Rattle.ferry_store.specs.Standing.{Keeps, live_in}

-- ---- entries with their places, and without

named_step : (b : Bool) (e : Located) (es : List LogEntry) (log : List Located) → es ≡ map (λ (x : Located). x.entry) log
    → cond b (e.entry ∷ es) es ≡ map (λ (x : Located). x.entry) (cond b (e ∷ log) log)
named_step true e es log same = ap (λ (l : List LogEntry). e.entry ∷ l) same
named_step false e es log same = same

named_map : (id : List ℕ) (log : List Located) → filter (names_key id) (map (λ (e : Located). e.entry) log) ≡ map (λ (e : Located). e.entry) (naming id log)
named_map id [] = refl
named_map id (e ∷ log) =
    named_step (names_key id e.entry) e (filter (names_key id) (map (λ (x : Located). x.entry) log)) (naming id log) (named_map id log)

then_map : (o : Option Located) → option_and_then put_blob (option_map (λ (e : Located). e.entry) o) ≡ option_and_then (λ (e : Located). put_blob e.entry) o
then_map None = refl
then_map (Some e) = refl

-- the last of some entries
abbrev last_of : List LogEntry → Option LogEntry
last_of named = slice_get named (length named - 1)

last_map : (named : List Located)
    → last_of (map (λ (e : Located). e.entry) named) ≡ option_map (λ (e : Located). e.entry) (slice_get named (length named - 1))
last_map named =
    ap (λ (n : ℕ). slice_get (map (λ (e : Located). e.entry) named) (n - 1)) (length-map named (λ (e : Located). e.entry))
    ∙ slice_get-map (λ (e : Located). e.entry) named (length named - 1)

-- what is live by a log is what is live by its entries
pub live_map : (id : List ℕ) (log : List Located) → live_in id (map (λ (e : Located). e.entry) log) ≡ live_blob id log
unfolding live_in live_blob
live_map id log =
    ap (λ (es : List LogEntry). option_and_then put_blob (last_of es)) (named_map id log)
    ∙ (ap (option_and_then put_blob) (last_map (naming id log)) ∙ then_map (slice_get (naming id log) (length (naming id log) - 1)))

-- ---- one more entry

get_push : (xs : List LogEntry) (x : LogEntry) → slice_get (xs ++ x ∷ []) (length xs) ≡ Some x
get_push [] x = refl
get_push (y ∷ xs) x = get_push xs x

last_push : (xs : List LogEntry) (x : LogEntry) → last_of (xs ++ x ∷ []) ≡ Some x
last_push xs x = let e : length (xs ++ x ∷ []) - 1 ≡ length xs = omega (arith, length_push xs x) in ap (slice_get (xs ++ x ∷ [])) e ∙ get_push xs x

last_on : (named : List LogEntry) (b : Bool) (e : LogEntry)
    → option_and_then put_blob (last_of (named ++ cond b (e ∷ []) [])) ≡ cond b (put_blob e) (option_and_then put_blob (last_of named))
last_on named true e = ap (option_and_then put_blob) (last_push named e)
last_on named false e = ap (λ (es : List LogEntry). option_and_then put_blob (last_of es)) (append-nil named)

-- one more entry counts where it names the id
live_more : (id : List ℕ) (entries : List LogEntry) (e : LogEntry) → live_in id (entries ++ e ∷ []) ≡ cond (names_key id e) (put_blob e) (live_in id entries)
unfolding live_in
live_more id entries e =
    ap (λ (es : List LogEntry). option_and_then put_blob (last_of es)) (filter-append (names_key id) entries (e ∷ []))
    ∙ last_on (filter (names_key id) entries) (names_key id e) e

-- a COMMIT leaves what is live
pub live_commit : (id : List ℕ) (entries : List LogEntry) → live_in id (entries ++ CommitEntry ∷ []) ≡ live_in id entries
live_commit id entries = live_more id entries CommitEntry

-- an id that is put is live
pub live_put : (id blob : List ℕ) (entries : List LogEntry) → live_in id (entries ++ PutEntry id blob ∷ []) ≡ Some blob
live_put id blob entries =
    live_more id entries (PutEntry id blob) ∙ ap (λ (b : Bool). cond b (Some blob) (live_in id entries)) ((eq_by_cmp_equiv nat_list_cmp_total).refl id)

keys_apart : (other id : List ℕ) (o : Ordering) → key_cmp other id ≡ o → other ≢ id → is_eq o ≡ false
keys_apart other id Equal e differ = absurd (differ (slice_cmp-IsAntisymmetric nat_cmp-IsAntisymmetric other id e))
keys_apart other id Less e differ = refl
keys_apart other id Greater e differ = refl

-- each other one is what it was
pub live_other : (id blob other : List ℕ) (entries : List LogEntry) → other ≢ id → live_in other (entries ++ PutEntry id blob ∷ []) ≡ live_in other entries
live_other id blob other entries differ =
    live_more other entries (PutEntry id blob)
    ∙ ap (λ (b : Bool). cond b (Some blob) (live_in other entries)) (keys_apart other id (key_cmp other id) refl differ)

-- an id that is deleted isn't live
pub live_deleted : (id : List ℕ) (entries : List LogEntry) → live_in id (entries ++ DeleteEntry id ∷ []) ≡ None
live_deleted id entries =
    live_more id entries (DeleteEntry id) ∙ ap (λ (b : Bool). cond b None (live_in id entries)) ((eq_by_cmp_equiv nat_list_cmp_total).refl id)

-- and each other one is what it was
pub live_spared : (id other : List ℕ) (entries : List LogEntry) → other ≢ id → live_in other (entries ++ DeleteEntry id ∷ []) ≡ live_in other entries
live_spared id other entries differ =
    live_more other entries (DeleteEntry id)
    ∙ ap (λ (b : Bool). cond b None (live_in other entries)) (keys_apart other id (key_cmp other id) refl differ)

pub live_nil : (id : List ℕ) (entries : List LogEntry) → live_in id (entries ++ []) ≡ live_in id entries
live_nil id entries = ap (live_in id) (append-nil entries)

-- whether an id is another
pub same_or : (id other : List ℕ) → (other ≡ id) ⊎ (other ≢ id)
same_or id other = by_bool (bytes_eq other id) refl where
  by_bool : (b : Bool) → bytes_eq other id ≡ b → (other ≡ id) ⊎ (other ≢ id)
  by_bool true e = inl ((bytes_eq-Decides other id).0 e)
  by_bool false e = inr (λ is. let both : false ≡ true = sym e ∙ (bytes_eq-Decides other id).1 is in cc)

-- ---- what is kept

pub keeps_same : (entries : List LogEntry) → Keeps entries entries
keeps_same entries id blob live = live

pub keeps_then : (a b c : List LogEntry) → Keeps a b → Keeps b c → Keeps a c
keeps_then a b c first second id blob live = second id blob (first id blob live)

pub keeps_nil : (entries : List LogEntry) → Keeps entries (entries ++ [])
keeps_nil entries id blob live = live_nil id entries ∙ live

pub keeps_commit : (entries : List LogEntry) → Keeps entries (entries ++ CommitEntry ∷ [])
keeps_commit entries id blob live = live_commit id entries ∙ live

-- an id that isn't live is put
pub keeps_put : (id blob : List ℕ) (entries : List LogEntry) → live_in id entries ≡ None → Keeps entries (entries ++ PutEntry id blob ∷ [])
keeps_put id blob entries none other old live = by_id (same_or id other) where
  by_id : (other ≡ id) ⊎ (other ≢ id) → live_in other (entries ++ PutEntry id blob ∷ []) ≡ Some old
  by_id (inl is) = let both : None ≡ Some old = sym none ∙ (ap (λ (i : List ℕ). live_in i entries) (sym is) ∙ live) in absurd (let no : ⊥ = cc in no)
  by_id (inr differ) = live_other id blob other entries differ ∙ live

-- an id whose blob would be live, were there one, isn't
pub not_live : (id : List ℕ) (entries : List LogEntry) → ((blob : List ℕ) → live_in id entries ≡ Some blob → ⊥) → live_in id entries ≡ None
not_live id entries none = by_live (live_in id entries) refl where
  by_live : (o : Option (List ℕ)) → live_in id entries ≡ o → live_in id entries ≡ None
  by_live None e = e
  by_live (Some blob) e = absurd (none blob e)
