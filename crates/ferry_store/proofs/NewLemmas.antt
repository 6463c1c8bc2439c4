-- A new repository opens under its secret.
use Rattle.std.proofs.Common.{◌≡◌, ◌+◌, cond, length, unwrap_or, ℕ, Bool, true, false, List, [], ◌∷◌, map, Option, Some, None, Ok}
use Rattle.std.proofs.Common.{refl, sym, ◌∙◌, ap, subst}
use Rattle.std.proofs.lemmas.Cmp.{nat_list_cmp_total}
use Rattle.std.specs.FinMap.{get, empty, insert, get-empty, get-insert, slice_cmp-IsAntisymmetric, nat_cmp-IsAntisymmetric}
use Rattle.std.specs.Ordering.{eq_by_cmp, is_eq}
use Rattle.std.specs.declared.cmp.Ordering.{Ordering}
use Rattle.std.specs.declared.cmp.Ordering.TheVariants.{Less, Equal, Greater}
use Rattle.ferry_base.specs.Limits.{zero_id}
use Rattle.ferry_config.specs.Config.{config_of}
use Rattle.ferry_config.specs.declared.config.Config.{Config}
use Rattle.ferry_disk.specs.Files.{Files, contents_at}
use Rattle.ferry_disk.specs.declared.name.Name.TheVariants as Name
use Rattle.ferry_keyblob.specs.Opening.{Opened}
use Rattle.ferry_log.proofs.PlacesLemmas.{placed_all, places_all, places_none}
use Rattle.ferry_log.specs.Live.{key_cmp, live_blob}
use Rattle.ferry_log.specs.Log.{Located, IsLog, numbers_up_to}
use Rattle.ferry_log.specs.State.{LogState, Places, IsStateOf, extents_of, first_place}
use Rattle.ferry_log.specs.declared.place.Place.{Place}
use Rattle.ferry_repo.proofs.LawLemmas.{has_live}
use Rattle.ferry_repo.specs.Opening.{UnlocksTo, opened_key, unlocked, unlocked_where, unlocked_with}
use Rattle.ferry_repo.specs.declared.secret.Secret.{Secret}
use Rattle.ferry_segment.specs.Entry.{LogEntry, PutEntry, CommitEntry}
use Rattle.ferry_stops.proofs.EntryLemmas.{shown_log}
use Rattle.ferry_stops.specs.Entries.{Shows}
use Rattle.ferry_store.specs.New.{IsOpenable, OpensNew, first_manifest, new_entries}

-- ---- the log of the manifest alone

abbrev located_at : ℕ → ℕ → LogEntry → Located
located_at segment at entry = record { segment = segment; at = at; entry = entry }

-- a list of these two entries
two_located : (log : List Located) (blob : List ℕ) → map (λ (e : Located). e.entry) log ≡ new_entries blob
    → (s : ℕ) × (m : ℕ) × (t : ℕ) × (n : ℕ) × (log ≡ located_at s m (PutEntry zero_id blob) ∷ located_at t n CommitEntry ∷ [])
two_located [] blob e = absurd (let no : ⊥ = cc in no)
two_located (a ∷ []) blob e = absurd (let no : ⊥ = cc in no)
two_located (a ∷ (b ∷ (c ∷ more))) blob e = absurd (let no : ⊥ = cc in no)
two_located (a ∷ (b ∷ [])) blob e =
    let first : a.entry ≡ PutEntry zero_id blob = cc in
    let second : b.entry ≡ CommitEntry = cc in (
      a.segment,
      a.at,
      b.segment,
      b.at,
      ap (λ (x : LogEntry). located_at a.segment a.at x ∷ b ∷ []) first ∙ ap
          (λ (x : LogEntry). located_at a.segment a.at (PutEntry zero_id blob) ∷ located_at b.segment b.at x ∷ []) second,
    )

blob_in_two : (s m t n : ℕ) (blob : List ℕ) → live_blob zero_id (located_at s m (PutEntry zero_id blob) ∷ located_at t n CommitEntry ∷ []) ≡ Some blob
unfolding live_blob
blob_in_two s m t n blob = refl

tied_key : (id key : List ℕ) (o : Ordering) → key_cmp id key ≡ o → is_eq o ≡ true → id ≡ key
tied_key id key Equal e h = slice_cmp-IsAntisymmetric nat_cmp-IsAntisymmetric id key e
tied_key id key Less e h = absurd (let no : ⊥ = cc in no)
tied_key id key Greater e h = absurd (let no : ⊥ = cc in no)

place_at : ℕ → ℕ → List ℕ → Place
place_at s m blob = record { segment = s; at = m + 41; size = length blob }

placed_two : (s m t n : ℕ) (blob : List ℕ)
    → placed_all empty (located_at s m (PutEntry zero_id blob) ∷ located_at t n CommitEntry ∷ []) ≡ insert {R = key_cmp} empty zero_id (place_at s m blob)
unfolding place_at
placed_two s m t n blob = refl

either_place : (b : Bool) (p q : Place) → cond b (Some p) None ≡ Some q → b ≡ true
either_place true p q e = refl
either_place false p q e = absurd (let no : ⊥ = cc in no)

-- no other key has a place
alone_in_two : (places : Places) (p : Place) (id : List ℕ) (place : Place) → places ≡ insert {R = key_cmp} empty zero_id p → get places id ≡ Some place
    → id ≡ zero_id
alone_in_two places p id place is placed =
    let parts : cond (eq_by_cmp key_cmp id zero_id) (Some p) None ≡ Some place =
    ap (cond (eq_by_cmp key_cmp id zero_id) (Some p)) (sym (get-empty _ id))
    ∙ (sym (get-insert nat_list_cmp_total empty zero_id p id) ∙ (sym (ap (λ (m : Places). get m id) is) ∙ placed)) in
    tied_key id zero_id (key_cmp id zero_id) refl (either_place (eq_by_cmp key_cmp id zero_id) p place parts)

-- ---- opening

unlocks_by : (text : List ℕ) (secret : Secret) (config : Config) (iterations : ℕ) (key : Opened) → config_of text ≡ Ok config
    → opened_key config secret ≡ Ok (record { iterations = iterations; key = key }) → UnlocksTo text secret config iterations key
unfolding unlocked
unlocks_by text secret config iterations key reads opens = ap (unlocked_where secret) reads ∙ ap (unlocked_with config) opens

contents_are : (files : Files) (text : List ℕ) → files.config ≡ Some text → contents_at files Name.Config ≡ text
contents_are files text e = ap (λ (o : Option (List ℕ)). unwrap_or o []) e

opened_place : (places : Places) (id : List ℕ) (place : Place) → first_place (get (empty {X = Place} {R = key_cmp}) id) (get places id) ≡ Some place
    → get places id ≡ Some place
opened_place places id place e = sym (ap (λ (o : Option Place). first_place o (get places id)) (get-empty _ id)) ∙ e

-- The files open as a new repository, by its first manifest.
abbrev pub OpensFirst : Secret → List ℕ → Files → Type 0
OpensFirst secret timestamp files = (new : OpensNew secret files) × (new.repo.manifest ≡ first_manifest timestamp)

opens_log : (secret : Secret) (files : Files) (timestamp text blob : List ℕ) (t : ℕ) (log : List Located) → IsOpenable secret timestamp text blob
    → files.config ≡ Some text → IsLog files t log → map (λ (e : Located). e.entry) log ≡ new_entries blob → OpensFirst secret timestamp files
opens_log secret files timestamp text blob t log o config is entries =
    let opened = placed_all empty log in
    let state : LogState = record { transaction = t; opened = opened; extents = extents_of files opened (numbers_up_to files t); learnt = empty } in
    let is_state : IsStateOf files state =
    record { log = log; is = is; places = record { live = places_all empty [] log places_none; extents_are = refl }; learnt = refl } in
    let two = two_located log blob entries in
    let live : live_blob zero_id log ≡ Some blob = ap (live_blob zero_id) two.4 ∙ blob_in_two two.0 two.1 two.2 two.3 blob in (
      record {
        repo = record { log = state; config = o.config; keys = o.key.keys; manifest = first_manifest timestamp };
        opens = record {
          opens = record {
            unlocks = record {
              reads = is_state;
              iterations = o.iterations;
              key = o.key;
              unlocks = subst (λ (x : List ℕ). UnlocksTo x secret o.config o.iterations o.key) (sym (contents_are files text config))
                  (unlocks_by text secret o.config o.iterations o.key o.reads o.key_opens);
              keys_are = refl;
            };
            content = o.content;
            object = record { blob = blob; has = has_live files state is_state zero_id blob live; opens = o.blob_opens };
            manifest_is = o.manifest_is;
          };
        };
        no_archives = refl;
        alone = λ id place placed.
            alone_in_two opened (place_at two.0 two.1 blob) id place (ap (placed_all empty) two.4 ∙ placed_two two.0 two.1 two.2 two.3 blob)
            (opened_place opened id place placed);
      },
      refl,
    )

pub opens_new : (secret : Secret) (files : Files) (timestamp text blob : List ℕ) → IsOpenable secret timestamp text blob → files.config ≡ Some text
    → Shows files (Some (new_entries blob)) → OpensFirst secret timestamp files
opens_new secret files timestamp text blob o config shows =
    let log = shown_log files shows.0 (new_entries blob) shows.1 in
    opens_log secret files timestamp text blob log.0 log.1 o config log.3 log.4
