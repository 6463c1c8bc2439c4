-- Values and pairs, built one after the other.
use Rattle.std.proofs.Common.{◌≡◌, ℕ, ◌+◌, ◌≤◌, ◌<◌, List, [], ◌∷◌, ◌++◌, length, get_or, take, Vec, Global, refl, sym, ap, subst, ◌∙◌}
use Rattle.std.proofs.lemmas.List.{take_more, take_all}
use Rattle.ferry_msgpack.specs.declared.value.Value.{Value}
use Rattle.ferry_msgpack.specs.Tree.{raw, table, no_items, no_pairs}
use Rattle.ferry_msgpack.specs.View.{value_view, items_view, pairs_view}
use Rattle.ferry_msgpack.proofs.ViewLemmas.{Entry}
use Rattle.ferry_manifest.specs.Manifest.Writing.{HaveIds, archive_fields, archive_pairs}
use Rattle.ferry_manifest.specs.Values.{raws}
use Rattle.ferry_manifest.specs.declared.manifest.ArchiveRef.{ArchiveRef}
use Rattle.ferry_manifest.proofs.Manifests.ReadLemmas.{names_view}

-- ---- the values of an array

pub raws_none : no_items ≡ raws []
unfolding raws
raws_none = refl

pub raws_push : (vs : List Value) (v : Value) (contents : List (List ℕ)) (content : List ℕ) → items_view vs ≡ raws contents → value_view v ≡ raw content
    → items_view (vs ++ v ∷ []) ≡ raws (contents ++ content ∷ [])
unfolding raws
raws_push [] v [] content done is = rw is refl
raws_push [] v (c ∷ contents) content done is = absurd cc
raws_push (u ∷ vs) v [] content done is = absurd cc
raws_push (u ∷ vs) v (c ∷ contents) content done is =
    let first : value_view u ≡ raw c = cc in
    let others : items_view vs ≡ raws contents = cc in
    rw (first, raws_push vs v contents content others is) refl

names_view-push : (names : List (Vec ℕ Global)) (name : Vec ℕ Global) → names_view (names ++ name ∷ []) ≡ names_view names ++ name.items ∷ []
names_view-push [] name = refl
names_view-push (n ∷ names) name = ap (λ (rest : List (List ℕ)). n.items ∷ rest) (names_view-push names name)

pub raws_more : (vs : List Value) (v : Value) (names : List (Vec ℕ Global)) (place : ℕ) (name : Vec ℕ Global) → place < length names
    → items_view vs ≡ raws (names_view (take place names)) → value_view v ≡ raw (get_or names place name).items
    → items_view (vs ++ v ∷ []) ≡ raws (names_view (take (place + 1) names))
raws_more vs v names place name lt done is =
    raws_push vs v (names_view (take place names)) (get_or names place name).items done is
    ∙ ap raws (sym (names_view-push (take place names) (get_or names place name)) ∙ ap names_view (sym (take_more names place name lt)))

pub raws_done : (vs : List Value) (names : List (Vec ℕ Global)) (place : ℕ) → length names ≤ place → items_view vs ≡ raws (names_view (take place names))
    → items_view vs ≡ raws (names_view names)
raws_done vs names place le done = done ∙ ap (λ all. raws (names_view all)) (take_all place names le)

-- ---- archives

pub archives_none : no_pairs ≡ archive_pairs []
unfolding archive_pairs
archives_none = refl

archives_push : (es : List Entry) (e : Entry) (archives : List ArchiveRef) (archive : ArchiveRef) → pairs_view es ≡ archive_pairs archives
    → e.0.items ≡ archive.name → value_view e.1 ≡ table (archive_fields archive)
    → pairs_view (es ++ e ∷ []) ≡ archive_pairs (archives ++ archive ∷ [])
unfolding archive_pairs
archives_push [] e [] archive done name_is fields_are = rw (name_is, fields_are) refl
archives_push [] e (a ∷ archives) archive done name_is fields_are = absurd cc
archives_push (f ∷ es) e [] archive done name_is fields_are = absurd cc
archives_push (f ∷ es) e (a ∷ archives) archive done name_is fields_are =
    let first_name : f.0.items ≡ a.name = cc in
    let first : value_view f.1 ≡ table (archive_fields a) = cc in
    let others : pairs_view es ≡ archive_pairs archives = cc in
    rw (first_name, first, archives_push es e archives archive others name_is fields_are) refl

pub archives_written : (es : List Entry) (e : Entry) (archives : List ArchiveRef) (place : ℕ) (archive : ArchiveRef) → place < length archives
    → pairs_view es ≡ archive_pairs (take place archives) → e.0.items ≡ (get_or archives place archive).name
    → value_view e.1 ≡ table (archive_fields (get_or archives place archive)) → pairs_view (es ++ e ∷ []) ≡ archive_pairs (take (place + 1) archives)
archives_written es e archives place archive lt done name_is fields_are =
    archives_push es e (take place archives) (get_or archives place archive) done name_is fields_are
    ∙ ap archive_pairs (sym (take_more archives place archive lt))

pub archives_all : (es : List Entry) (archives : List ArchiveRef) (place : ℕ) → length archives ≤ place
    → pairs_view es ≡ archive_pairs (take place archives) → pairs_view es ≡ archive_pairs archives
archives_all es archives place le done = done ∙ ap archive_pairs (take_all place archives le)

ids_push : (archives : List ArchiveRef) (archive : ArchiveRef) → HaveIds archives → length archive.id ≡ 32 → HaveIds (archives ++ archive ∷ [])
ids_push [] archive ids id = (id, tt)
ids_push (a ∷ archives) archive ids id = (ids.0, ids_push archives archive ids.1 id)

pub ids_more : (archives : List ArchiveRef) (place : ℕ) (archive : ArchiveRef) → place < length archives → HaveIds (take place archives)
    → length (get_or archives place archive).id ≡ 32 → HaveIds (take (place + 1) archives)
ids_more archives place archive lt ids id =
    subst HaveIds (sym (take_more archives place archive lt)) (ids_push (take place archives) (get_or archives place archive) ids id)

pub ids_all : (archives : List ArchiveRef) (place : ℕ) → length archives ≤ place → HaveIds (take place archives) → HaveIds archives
ids_all archives place le ids = subst HaveIds (take_all place archives le) ids
