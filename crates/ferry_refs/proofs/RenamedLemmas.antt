-- Lemmas on specs/Tagging.antt: which archive a name has once archives have their new records.
use Rattle.std.proofs.Common.{◌≡◌, ◌⊎◌, inl, inr, ℕ, ◌+◌, ◌<◌, Bool, true, false, cond, List, [], ◌∷◌, ◌++◌, length, map, take, get_or, Option, Some, None}
use Rattle.std.proofs.Common.{IsSome}
use Rattle.std.proofs.Common.{option_map, refl, sym, ◌∙◌, ap, subst, arith}
use Rattle.std.specs.List.{AllByRecursion}
use Rattle.std.specs.Str.{bytes_eq}
use Rattle.std.proofs.lemmas.List.{length-map, length-take, map-append, take_more}
use Rattle.std.proofs.lemmas.Slice.Eq.{bytes_eq-Decides}
use Rattle.ferry_blob.specs.Blob.{content_id}
use Rattle.ferry_disk.specs.Files.{Files}
use Rattle.ferry_manifest.specs.Manifest.Text.{ManifestText}
use Rattle.ferry_manifest.specs.Record.Text.{ArchiveText}
use Rattle.ferry_manifest.specs.declared.manifest.ArchiveRef.{ArchiveRef}
use Rattle.ferry_next.proofs.PlaceLemmas.{with_named, without_named}
use Rattle.ferry_next.specs.Next.{without_archive, without_entry}
use Rattle.ferry_piece.proofs.AmongLemmas.{among_behind}
use Rattle.ferry_piece.specs.Gather.{IsAmong}
use Rattle.ferry_repo.proofs.ContentLemmas.{one_record}
use Rattle.ferry_repo.specs.Archives.{HoldsRecord, archive_named}
use Rattle.ferry_repo.specs.Opening.{RepoState}
use Rattle.ferry_refs.specs.declared.untagged.Untagged.{Untagged}
use Rattle.ferry_refs.specs.Tagging.{AreOld, AreRenewals, IsRenewal, KeepsNamesAndTimes, OldRecord, ReadsRecord, archives_in, has_tag, ids_under, is_old}
use Rattle.ferry_refs.specs.Tagging.{next_tagged, none_old, old_record, renewed, renewed_entries, renewed_entry, with_renewed}

-- ---- one after another

-- the last of these archives with a name, and else what was found
abbrev last_of : List ℕ → List ArchiveRef → Option ArchiveRef → Option ArchiveRef
last_of name [] found = found
last_of name (entry ∷ entries) found = last_of name entries (cond (bytes_eq entry.name name) (Some entry) found)

both_by : (b : Bool) (entry : ArchiveRef) (found : Option ArchiveRef) → cond b (Some entry) (cond b None found) ≡ cond b (Some entry) found
both_by true entry found = refl
both_by false entry found = refl

-- its name has the new one, and each other name has what it had
pub with_renewed_named : (name : List ℕ) (manifest : ManifestText) (entry : ArchiveRef)
    → archive_named name (with_renewed manifest entry).archives ≡ cond (bytes_eq entry.name name) (Some entry) (archive_named name manifest.archives)
with_renewed_named name manifest entry =
    with_named name (without_archive manifest.archives entry.name) entry
    ∙ (ap (λ (o : Option ArchiveRef). cond (bytes_eq entry.name name) (Some entry) o) (without_named entry.name name manifest.archives)
    ∙ both_by (bytes_eq entry.name name) entry (archive_named name manifest.archives))

renewed_named : (name : List ℕ) (manifest : ManifestText) (entries : List ArchiveRef)
    → archive_named name (renewed manifest entries).archives ≡ last_of name entries (archive_named name manifest.archives)
renewed_named name manifest [] = refl
renewed_named name manifest (entry ∷ entries) =
    renewed_named name (with_renewed manifest entry) entries ∙ ap (last_of name entries) (with_renewed_named name manifest entry)

-- one more behind others
pub renewed_push : (manifest : ManifestText) (entries : List ArchiveRef) (entry : ArchiveRef)
    → renewed manifest (entries ++ entry ∷ []) ≡ with_renewed (renewed manifest entries) entry
renewed_push manifest [] entry = refl
renewed_push manifest (e ∷ entries) entry = renewed_push (with_renewed manifest e) entries entry

pub entries_push : (archives : List ArchiveRef) (ids : List (List ℕ)) (named : ArchiveRef) (id : List ℕ) → length ids ≡ length archives
    → renewed_entries (archives ++ named ∷ []) (ids ++ id ∷ []) ≡ renewed_entries archives ids ++ renewed_entry named id ∷ []
entries_push [] [] named id same = refl
entries_push [] (i ∷ ids) named id same = absurd (let no : ⊥ = cc in no)
entries_push (a ∷ archives) [] named id same = absurd (let no : ⊥ = cc in no)
entries_push (a ∷ archives) (i ∷ ids) named id same =
    ap (λ (l : List ArchiveRef). renewed_entry a i ∷ l) (entries_push archives ids named id (let e : length ids ≡ length archives = cc in e))

-- a name that has an archive has one then
some_by : (b : Bool) (entry : ArchiveRef) (found : Option ArchiveRef) → IsSome found → IsSome (cond b (Some entry) found)
some_by true entry found some = refl
some_by false entry found some = some

pub still_named : (name : List ℕ) (manifest : ManifestText) (entry : ArchiveRef) → IsSome (archive_named name manifest.archives)
    → IsSome (archive_named name (with_renewed manifest entry).archives)
still_named name manifest entry some =
    subst (λ (o : Option ArchiveRef). IsSome o) (sym (with_renewed_named name manifest entry))
    (some_by (bytes_eq entry.name name) entry (archive_named name manifest.archives) some)

-- ---- the archives whose record has no tag

-- the archive of a name is another one than that of a record with the other tag
module _ (files : Files) (repo : RepoState) (name : List ℕ) (named : ArchiveRef) (archive : ArchiveText)
    (named_is : archive_named name repo.manifest.archives ≡ Some named) (holds : HoldsRecord files repo.log repo.keys named.id archive) where
  same_here : (n : ArchiveRef) (a : ArchiveText) → bytes_eq n.name name ≡ true → ReadsRecord files repo n a → (n ≡ named) × (a ≡ archive)
  same_here n a e reads =
      let is : n.name ≡ name = (bytes_eq-Decides n.name name).0 e in
      let found : archive_named name repo.manifest.archives ≡ Some n =
      subst (λ (m : List ℕ). archive_named m repo.manifest.archives ≡ Some n) is reads.named_is in
      let both : Some n ≡ Some named = sym found ∙ named_is in
      let same : n ≡ named = cc in (
        same,
        one_record files repo.log repo.keys named.id a archive
            (subst (λ (m : ArchiveRef). HoldsRecord files repo.log repo.keys m.id a) same reads.record_is) holds,
      )

  apart_here : (n : ArchiveRef) (a : ArchiveText) (b : Bool) → bytes_eq n.name name ≡ b → ReadsRecord files repo n a → (a ≡ archive → ⊥)
      → bytes_eq n.name name ≡ false
  apart_here n a true e reads differ = absurd (differ (same_here n a e reads).1)
  apart_here n a false e reads differ = e

  -- one with a tag keeps its record
  tagged_found : (archives : List ArchiveRef) (olds : List OldRecord) (texts : List (List ℕ)) (found : Option ArchiveRef) → archive.tagged ≡ true
      → AreOld files repo archives olds → last_of name (renewed_entries (archives_in olds) (ids_under repo.keys texts)) found ≡ found
  tagged_found _ _ texts found tagged none_old = refl
  tagged_found _ olds texts found tagged (has_tag n a rest _ r t old) = tagged_found rest olds texts found tagged old
  tagged_found _ _ [] found tagged (is_old n a rest olds r t old) = refl
  tagged_found _ _ (text ∷ texts) found tagged (is_old n a rest olds r t old) =
      let entry = renewed_entry n (content_id repo.keys text) in
      let differ : bytes_eq n.name name ≡ false =
      apart_here n a (bytes_eq n.name name) refl r
      (λ same. let no : false ≡ true = sym t ∙ (ap (λ (x : ArchiveText). x.tagged) same ∙ tagged) in let l : ⊥ = cc in l) in
      ap (last_of name (renewed_entries (archives_in olds) (ids_under repo.keys texts)))
      (ap (λ (b : Bool). cond b (Some entry) found) differ) ∙ tagged_found rest olds texts found tagged old

  -- one without a tag has a new record
  record HasNew (texts : List (List ℕ)) (olds : List OldRecord) (found : Option ArchiveRef) : Type 0 where
    text : List ℕ
    among : IsAmong texts text
    renewal : IsRenewal repo.keys archive text
    last : last_of name (renewed_entries (archives_in olds) (ids_under repo.keys texts)) found ≡ Some (renewed_entry named (content_id repo.keys text))

  -- none of these archives has the name
  record HasNone (archives : List ArchiveRef) (texts : List (List ℕ)) (olds : List OldRecord) (found : Option ArchiveRef) : Type 0 where
    last : last_of name (renewed_entries (archives_in olds) (ids_under repo.keys texts)) found ≡ found
    apart : AllByRecursion (λ (a : ArchiveRef). bytes_eq a.name name ≡ false) archives

  new_by : (n : ArchiveRef) (a : ArchiveText) (rest : List ArchiveRef) (olds : List OldRecord) (text : List ℕ) (texts : List (List ℕ))
      (found : Option ArchiveRef) (b : Bool) → bytes_eq n.name name ≡ b → ReadsRecord files repo n a → IsRenewal repo.keys a text
      → HasNew texts olds (cond b (Some (renewed_entry n (content_id repo.keys text))) found)
      ⊎ HasNone rest texts olds (cond b (Some (renewed_entry n (content_id repo.keys text))) found)
      → HasNew (text ∷ texts) (old_record n a ∷ olds) found ⊎ HasNone (n ∷ rest) (text ∷ texts) (old_record n a ∷ olds) found
  new_by n a rest olds text texts found b e reads renewal (inl new) =
      inl (record {
        text = new.text;
        among = among_behind (text ∷ []) texts new.text new.among;
        renewal = new.renewal;
        last = ap (λ (c : Bool). last_of name (renewed_entries (archives_in olds) (ids_under repo.keys texts))
            (cond c (Some (renewed_entry n (content_id repo.keys text))) found)) e ∙ new.last;
      })
  new_by n a rest olds text texts found true e reads renewal (inr none) =
      let same = same_here n a e reads in
      inl (record {
        text = text;
        among = (0, refl);
        renewal = subst (λ (x : ArchiveText). IsRenewal repo.keys x text) same.1 renewal;
        last = ap (λ (c : Bool). last_of name (renewed_entries (archives_in olds) (ids_under repo.keys texts))
            (cond c (Some (renewed_entry n (content_id repo.keys text))) found)) e
            ∙ (none.last ∙ ap (λ (m : ArchiveRef). Some (renewed_entry m (content_id repo.keys text))) same.0);
      })
  new_by n a rest olds text texts found false e reads renewal (inr none) =
      inr (record {
        last = ap (λ (c : Bool). last_of name (renewed_entries (archives_in olds) (ids_under repo.keys texts))
            (cond c (Some (renewed_entry n (content_id repo.keys text))) found)) e ∙ none.last;
        apart = (e, none.apart);
      })

  new_or_none : (archives : List ArchiveRef) (olds : List OldRecord) (texts : List (List ℕ)) (found : Option ArchiveRef) → archive.tagged ≡ false
      → AreOld files repo archives olds → AreRenewals repo.keys olds texts → HasNew texts olds found ⊎ HasNone archives texts olds found
  new_or_none _ _ [] found off none_old all = inr (record { last = refl; apart = tt })
  new_or_none _ _ (text ∷ texts) found off none_old all = absurd all
  new_or_none _ olds texts found off (has_tag n a rest _ r t old) all =
      elim (new_or_none rest olds texts found off old all) [
        | inl new ↦ inl new
        | inr none ↦
            inr (record {
              last = none.last;
              apart = (
                apart_here n a (bytes_eq n.name name) refl r
                    (λ same. let no : true ≡ false = sym t ∙ (ap (λ (x : ArchiveText). x.tagged) same ∙ off) in let l : ⊥ = cc in l),
                none.apart,
              );
            })
      ]
  new_or_none _ _ [] found off (is_old n a rest olds r t old) all = absurd all
  new_or_none _ _ (text ∷ texts) found off (is_old n a rest olds r t old) all =
      let b = bytes_eq n.name name in
      new_by n a rest olds text texts found b refl r all.0
      (new_or_none rest olds texts (cond b (Some (renewed_entry n (content_id repo.keys text))) found) off old all.1)

  apart_none : (archives : List ArchiveRef) → AllByRecursion (λ (a : ArchiveRef). bytes_eq a.name name ≡ false) archives
      → archive_named name archives ≡ None
  unfolding archive_named
  apart_none [] apart = refl
  apart_none (a ∷ archives) apart = rw (apart.0) (apart_none archives apart.1)

  module _ (olds : List OldRecord) (texts : List (List ℕ)) (time : List ℕ) (old : AreOld files repo repo.manifest.archives olds)
      (renewals : AreRenewals repo.keys olds texts) where
    pub tagged_name : archive.tagged ≡ true → archive_named name (next_tagged repo.keys repo.manifest olds texts time).archives ≡ Some named
    tagged_name tagged =
        renewed_named name repo.manifest (renewed_entries (archives_in olds) (ids_under repo.keys texts))
        ∙ (tagged_found repo.manifest.archives olds texts (archive_named name repo.manifest.archives) tagged old ∙ named_is)

    -- The new record of an archive that had none with a tag.
    pub record IsRenamed : Type 0 where
      pub text : List ℕ
      pub among : IsAmong texts text
      pub renewal : IsRenewal repo.keys archive text
      pub named_now : archive_named name (next_tagged repo.keys repo.manifest olds texts time).archives
          ≡ Some (renewed_entry named (content_id repo.keys text))

    pub untagged_name : archive.tagged ≡ false → IsRenamed
    untagged_name off =
        elim (new_or_none repo.manifest.archives olds texts (archive_named name repo.manifest.archives) off old renewals) [
          | inl new ↦ record {
            text = new.text;
            among = new.among;
            renewal = new.renewal;
            named_now = renewed_named name repo.manifest (renewed_entries (archives_in olds) (ids_under repo.keys texts)) ∙ new.last;
          }
          | inr none ↦
              let no : None ≡ Some named = sym (apart_none repo.manifest.archives none.apart) ∙ named_is in
              absurd (let l : ⊥ = cc in l)
        ]

-- ---- names and times

abbrev time_of_entry : Option ArchiveRef → Option (List ℕ)
time_of_entry found = option_map (λ (a : ArchiveRef). a.time) found

module _ (files : Files) (repo : RepoState) (name : List ℕ) where
  times_by : (n : ArchiveRef) (a : ArchiveText) (id : List ℕ) (found : Option ArchiveRef) (b : Bool) → bytes_eq n.name name ≡ b
      → ReadsRecord files repo n a → time_of_entry found ≡ time_of_entry (archive_named name repo.manifest.archives)
      → time_of_entry (cond b (Some (renewed_entry n id)) found) ≡ time_of_entry (archive_named name repo.manifest.archives)
  times_by n a id found true e reads same =
      ap time_of_entry (sym (subst (λ (m : List ℕ). archive_named m repo.manifest.archives ≡ Some n) ((bytes_eq-Decides n.name name).0 e) reads.named_is))
  times_by n a id found false e reads same = same

  times_kept : (archives : List ArchiveRef) (olds : List OldRecord) (ids : List (List ℕ)) (found : Option ArchiveRef)
      → AreOld files repo archives olds → time_of_entry found ≡ time_of_entry (archive_named name repo.manifest.archives)
      → time_of_entry (last_of name (renewed_entries (archives_in olds) ids) found) ≡ time_of_entry (archive_named name repo.manifest.archives)
  times_kept _ _ ids found none_old same = same
  times_kept _ olds ids found (has_tag n a rest _ r t old) same = times_kept rest olds ids found old same
  times_kept _ _ [] found (is_old n a rest olds r t old) same = same
  times_kept _ _ (id ∷ ids) found (is_old n a rest olds r t old) same =
      times_kept rest olds ids (cond (bytes_eq n.name name) (Some (renewed_entry n id)) found) old
      (times_by n a id found (bytes_eq n.name name) refl r same)

-- each name has the time that it had
pub names_kept : (files : Files) (repo : RepoState) (olds : List OldRecord) (texts : List (List ℕ)) (time : List ℕ)
    → AreOld files repo repo.manifest.archives olds → KeepsNamesAndTimes repo.manifest (next_tagged repo.keys repo.manifest olds texts time)
names_kept files repo olds texts time old name =
    ap time_of_entry (renewed_named name repo.manifest (renewed_entries (archives_in olds) (ids_under repo.keys texts)))
    ∙ times_kept files repo name repo.manifest.archives olds (ids_under repo.keys texts) (archive_named name repo.manifest.archives) old refl

read_by : (files : Files) (repo : RepoState) (n : ArchiveRef) (a : ArchiveText) (rest : List ArchiveRef) (name : List ℕ) (named : ArchiveRef) (b : Bool)
    → bytes_eq n.name name ≡ b → ReadsRecord files repo n a → cond b (Some n) (archive_named name rest) ≡ Some named
    → (archive_named name rest ≡ Some named → (archive : ArchiveText) × HoldsRecord files repo.log repo.keys named.id archive)
    → (archive : ArchiveText) × HoldsRecord files repo.log repo.keys named.id archive
read_by files repo n a rest name named true e reads is later =
    let same : n ≡ named = cc in (a, subst (λ (m : ArchiveRef). HoldsRecord files repo.log repo.keys m.id a) same reads.record_is)
read_by files repo n a rest name named false e reads is later = later is

-- each archive of these reads
pub old_reads : (files : Files) (repo : RepoState) (archives : List ArchiveRef) (olds : List OldRecord) (name : List ℕ) (named : ArchiveRef)
    → AreOld files repo archives olds → archive_named name archives ≡ Some named
    → (archive : ArchiveText) × HoldsRecord files repo.log repo.keys named.id archive
unfolding archive_named
old_reads files repo _ _ name named none_old is = absurd (let no : ⊥ = cc in no)
old_reads files repo _ olds name named (has_tag n a rest _ r t old) is =
    read_by files repo n a rest name named (bytes_eq n.name name) refl r is (λ e. old_reads files repo rest olds name named old e)
old_reads files repo _ _ name named (is_old n a rest olds r t old) is =
    read_by files repo n a rest name named (bytes_eq n.name name) refl r is (λ e. old_reads files repo rest olds name named old e)

-- ---- the steps of a body

-- a name whose archive was dropped has none
pub unnamed_then : (manifest accepted : ManifestText) (named entry : ArchiveRef) (name id : List ℕ) → entry ≡ renewed_entry named id → name ≡ named.name
    → accepted ≡ without_entry manifest name → archive_named entry.name accepted.archives ≡ None
unnamed_then manifest accepted named entry name id is same dropped =
    let here : name ≡ entry.name = same ∙ ap (λ (e : ArchiveRef). e.name) (sym is) in
    ap (λ (m : ManifestText). archive_named entry.name m.archives) dropped
    ∙ (without_named name entry.name manifest.archives
    ∙ ap (λ (b : Bool). cond b None (archive_named entry.name manifest.archives)) ((bytes_eq-Decides name entry.name).1 here))

-- the archives of some of these
abbrev pub names_in : List Untagged → List ArchiveRef
names_in untagged = map (λ (u : Untagged). u.named) untagged

-- one more archive has its new record
pub renamed_next : (manifest accepted next : ManifestText) (untagged : List Untagged) (ids : List (List ℕ)) (place : ℕ) (u : Untagged) (d : List ℕ)
    → u ≡ get_or untagged place u → place < length untagged → place < length ids
    → accepted ≡ renewed manifest (renewed_entries (names_in (take place untagged)) (take place ids))
    → next ≡ with_renewed accepted (renewed_entry u.named (get_or ids place d))
    → next ≡ renewed manifest (renewed_entries (names_in (take (place + 1) untagged)) (take (place + 1) ids))
renamed_next manifest accepted next untagged ids place u d at lt id_lt so_far is =
    let front = names_in (take place untagged) in
    let here = get_or untagged place u in
    let id = get_or ids place d in
    let names : names_in (take (place + 1) untagged) ≡ front ++ here.named ∷ [] =
    ap names_in (take_more untagged place u lt) ∙ map-append (λ (x : Untagged). x.named) (take place untagged) (here ∷ []) in
    let first = length-take place ids in
    let second = length-take place untagged in
    let third = length-map (take place untagged) (λ (x : Untagged). x.named) in
    let sizes : length (take place ids) ≡ length front = omega (arith, first, second, third, lt, id_lt) in
    is
    ∙ (ap (λ (x : Untagged). with_renewed accepted (renewed_entry x.named id)) at
    ∙ (ap (λ (m : ManifestText). with_renewed m (renewed_entry here.named id)) so_far
    ∙ (sym (renewed_push manifest (renewed_entries front (take place ids)) (renewed_entry here.named id))
    ∙ (ap (renewed manifest) (sym (entries_push front (take place ids) here.named id sizes))
    ∙ (ap (λ (ns : List ArchiveRef). renewed manifest (renewed_entries ns (take place ids ++ id ∷ []))) (sym names)
    ∙ ap (λ (is : List (List ℕ)). renewed manifest (renewed_entries (names_in (take (place + 1) untagged)) is)) (sym (take_more ids place d id_lt)))))))
