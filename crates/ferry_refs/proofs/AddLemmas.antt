-- Lemmas on specs/TagSteps.antt: records that are added with their tags, one after another, and why one isn't.
use Rattle.std.proofs.Common.{◌≡◌, inr, ℕ, zero, suc, ◌+◌, ◌<◌, false, List, [], ◌∷◌, ◌++◌, length, take, get_or}
use Rattle.std.proofs.Common.{Option, Some, None, option_map, append_assoc, Result, Ok, Err, IfSome, refl, sym, ◌∙◌, ap, subst, arith}
use Rattle.std.proofs.lemmas.List.{append-nil, map-append, take_more}
use Rattle.std.proofs.lemmas.Option.{IfSome_then}
use Rattle.ferry_blob.specs.Blob.{content_id}
use Rattle.ferry_disk.proofs.DeviceLemmas.{told_any}
use Rattle.ferry_disk.specs.Act.{History}
use Rattle.ferry_disk.specs.Device.{Told, told_files}
use Rattle.ferry_disk.specs.Moments.{Between, Moments}
use Rattle.ferry_mac.specs.declared.keys.Keys.{Keys}
use Rattle.ferry_manifest.specs.Record.Text.{ArchiveText, archive_view}
use Rattle.ferry_piece.proofs.WorkLemmas.{works_as, works_then}
use Rattle.ferry_piece.specs.Fault.{shelf_failed, target_failed, target_fault}
use Rattle.ferry_piece.specs.Work.{Works}
use Rattle.ferry_piece.specs.declared.fault.CarryFault.{CarryFault}
use Rattle.ferry_piece.specs.declared.fault.CarryFault.TheVariants as Carry
use Rattle.ferry_repo.specs.Opening.{repo_view}
use Rattle.ferry_repo.specs.declared.fault.RepoFault.TheVariants as Repos
use Rattle.ferry_store.proofs.StepLemmas.{done_here, here_each, moments_then}
use Rattle.ferry_store.specs.Adding.{RefusesAdd}
use Rattle.ferry_store.specs.Causes.{StopsAt}
use Rattle.ferry_store.specs.State.{IsSound, KeepsSound, ShowsStanding, Written}
use Rattle.ferry_store.specs.declared.fault.StoreRefusal.{StoreRefusal}
use Rattle.ferry_store.specs.declared.fault.StoreRefusal.TheVariants as Stores
use Rattle.ferry_store.specs.declared.store.Store.{Store}
use Rattle.ferry_write.specs.Script.{AllDone}
use Rattle.ferry_refs.proofs.DropLemmas.{leaves_here}
use Rattle.ferry_refs.proofs.RenewLemmas.{texts_none, texts_then}
use Rattle.ferry_refs.specs.Deleting.{LeavesCommitted}
use Rattle.ferry_refs.specs.TagSteps.{AddsTexts, RefusesNewRecord, RefusesRenewal, RefusesSome, old_view, olds_view}
use Rattle.ferry_refs.specs.Tagging.{AreRenewals, DrawsRenewal, DrawsRenewals, IsRenewal, OldRecord, ids_under, salts_in}
use Rattle.ferry_refs.specs.declared.untagged.Untagged.{Untagged}

-- ---- what each stop shows

-- where nothing is committed while a content is added
pub keeps_leaves : (store : Store) (h g : History) → KeepsSound store.session store.counter h g → LeavesCommitted store h g
keeps_leaves store h g keeps counts fits = keeps counts fits.written fits.under_way

-- texts were added, and nothing is committed behind them
pub texts_leave : (store middle : Store) (texts : List (List ℕ)) (h g i : History) → LeavesCommitted store h g → AllDone h g
    → AddsTexts texts store middle h g → LeavesCommitted middle g i → LeavesCommitted store h i
texts_leave store middle texts h g i leaves done adds later counts fits =
    let first = adds counts fits in
    moments_then (IsSound (ShowsStanding fits.written) counts) h g i (leaves counts fits) done
    (subst (λ (w : Written). Moments (IsSound (ShowsStanding w) counts) g i) first.written_is (later counts first.fits))

-- ---- records so far

-- Records were added with their tags, each under its id.
pub record AddedTexts (keys : Keys) (olds : List OldRecord) (ids : List (List ℕ)) (store now : Store) (a b : Option Told) (n m : ℕ)
    (drawn drawn_now : Option (List ℕ)) : Type 0 where
  pub texts : List (List ℕ)
  pub drew : DrawsRenewals keys olds texts drawn drawn_now
  pub ids_are : ids ≡ ids_under keys texts
  pub works : Works {T = Unit {0}} (LeavesCommitted store) (λ _. AddsTexts texts store now) a b n m (Ok tt)

draws_nothing : (drawn : Option (List ℕ)) → drawn ≡ option_map (λ (bytes : List ℕ). bytes ++ []) drawn
draws_nothing None = refl
draws_nothing (Some bytes) = ap (λ (l : List ℕ). Some l) (sym (append-nil bytes))

pub added_none : (keys : Keys) (store : Store) (a : Option Told) (n : ℕ) (drawn : Option (List ℕ)) → AddedTexts keys [] [] store store a a n n drawn drawn
added_none keys store a n drawn = record {
  texts = [];
  drew = (tt, draws_nothing drawn);
  ids_are = refl;
  works = record {
    each = here_each (LeavesCommitted store) a (leaves_here store);
    end = here_each (λ h g. AllDone h g × AddsTexts [] store store h g) a (λ h. (done_here h, texts_none store h));
    ends = refl;
    cause = refl;
  };
}

renewals_push : (keys : Keys) (olds : List OldRecord) (texts : List (List ℕ)) (old : OldRecord) (text : List ℕ) (all : AreRenewals keys olds texts)
    (one : IsRenewal keys old.archive text) → (both : AreRenewals keys (olds ++ old ∷ []) (texts ++ text ∷ []))
    × (salts_in keys (olds ++ old ∷ []) (texts ++ text ∷ []) both ≡ salts_in keys olds texts all ++ one.salt)
renewals_push keys [] [] old text all one = ((one, tt), append-nil one.salt)
renewals_push keys [] (t ∷ texts) old text all one = absurd all
renewals_push keys (o ∷ olds) [] old text all one = absurd all
renewals_push keys (o ∷ olds) (t ∷ texts) old text all one =
    let rest = renewals_push keys olds texts old text all.1 one in (
      (all.0, rest.0),
      ap (λ (l : List ℕ). all.0.salt ++ l) rest.1 ∙ sym (append_assoc all.0.salt (salts_in keys olds texts all.1) one.salt),
    )

-- bytes that were drawn behind others
pub draws_joined : (drawn middle drawn_now : Option (List ℕ)) (some more all : List ℕ) → middle ≡ option_map (λ (bytes : List ℕ). bytes ++ some) drawn
    → drawn_now ≡ option_map (λ (bytes : List ℕ). bytes ++ more) middle → some ++ more ≡ all
    → drawn_now ≡ option_map (λ (bytes : List ℕ). bytes ++ all) drawn
draws_joined None middle drawn_now some more all first second is = second ∙ ap (option_map (λ (bytes : List ℕ). bytes ++ more)) first
draws_joined (Some d) middle drawn_now some more all first second is =
    second
    ∙ (ap (option_map (λ (bytes : List ℕ). bytes ++ more)) first
    ∙ ap (λ (l : List ℕ). Some l) (append_assoc d some more ∙ ap (λ (l : List ℕ). d ++ l) is))

draws_push : (keys : Keys) (olds : List OldRecord) (texts : List (List ℕ)) (old : OldRecord) (text : List ℕ) (drawn middle drawn_now : Option (List ℕ))
    → DrawsRenewals keys olds texts drawn middle → DrawsRenewal keys old.archive text middle drawn_now
    → DrawsRenewals keys (olds ++ old ∷ []) (texts ++ text ∷ []) drawn drawn_now
draws_push keys olds texts old text drawn middle drawn_now some one =
    let both = renewals_push keys olds texts old text some.0 one.0 in
    (both.0, draws_joined drawn middle drawn_now (salts_in keys olds texts some.0) one.0.salt _ some.1 one.1 (sym both.1))

-- one behind others
pub both_works : {T U : Type 0} (store middle now : Store) (some more : List (List ℕ)) (a b c : Option Told) (n m k : ℕ) (x : T)
    (result : Result U CarryFault) → (repo_view middle.repo).keys ≡ (repo_view store.repo).keys
    → Works {T = T} (LeavesCommitted store) (λ _. AddsTexts some store middle) a b n m (Ok x)
    → Works {T = U} (LeavesCommitted middle) (λ _. AddsTexts more middle now) b c m k result
    → Works {T = U} (LeavesCommitted store) (λ _. AddsTexts (some ++ more) store now) a c n k result
both_works {T} {U} store middle now some more a b c n m k x result same p q =
    works_then (LeavesCommitted store) (λ (_ : T). AddsTexts some store middle) (LeavesCommitted middle) (λ (_ : U). AddsTexts more middle now)
    (LeavesCommitted store) (λ (_ : U). AddsTexts (some ++ more) store now) a b c n m k x result
    (λ h g i leaves done adds later. texts_leave store middle some h g i leaves done adds later)
    (λ _ h g i first second. texts_then store middle now some more h g i same first second) p q

pub added_more : {T : Type 0} (store middle now : Store) (untagged : List Untagged) (place : ℕ) (d : Untagged) (ids : List (List ℕ)) (text id : List ℕ)
    (a b c : Option Told) (n m k : ℕ) (x : T) (drawn drawn_then drawn_now : Option (List ℕ)) → place < length untagged → d ≡ get_or untagged place d
    → (repo_view middle.repo).keys ≡ (repo_view store.repo).keys
    → AddedTexts (repo_view store.repo).keys (olds_view (take place untagged)) ids store middle a b n m drawn drawn_then
    → Works {T = T} (LeavesCommitted middle) (λ _. AddsTexts (text ∷ []) middle now) b c m k (Ok x)
    → DrawsRenewal (repo_view middle.repo).keys (archive_view d.archive) text drawn_then drawn_now → id ≡ content_id (repo_view middle.repo).keys text
    → AddedTexts (repo_view store.repo).keys (olds_view (take (place + 1) untagged)) (ids ++ id ∷ []) store now a c n k drawn drawn_now
added_more {T} store middle now untagged place d ids text id a b c n m k x drawn drawn_then drawn_now lt at same some one renewal id_is =
    let keys = (repo_view store.repo).keys in
    let old = old_view (get_or untagged place d) in
    let olds : olds_view (take (place + 1) untagged) ≡ olds_view (take place untagged) ++ old ∷ [] =
    ap olds_view (take_more untagged place d lt) ∙ map-append old_view (take place untagged) (get_or untagged place d ∷ []) in
    let last = both_works {T = Unit {0}} {U = T} store middle now some.texts (text ∷ []) a b c n m k tt (Ok x) same some.works one in
    record {
      texts = some.texts ++ text ∷ [];
      drew = subst (λ (l : List OldRecord). DrawsRenewals keys l (some.texts ++ text ∷ []) drawn drawn_now) (sym olds)
          (draws_push keys (olds_view (take place untagged)) some.texts old text drawn drawn_then drawn_now some.drew
          (subst (λ (u : Untagged). DrawsRenewal keys (archive_view u.archive) text drawn_then drawn_now) at
          (subst (λ (s : Keys). DrawsRenewal s (archive_view d.archive) text drawn_then drawn_now) same renewal)));
      ids_are = ap (λ (l : List (List ℕ)). l ++ id ∷ []) some.ids_are
          ∙ (ap (λ (i : List ℕ). ids_under keys some.texts ++ i ∷ []) (id_is ∙ ap (λ (s : Keys). content_id s text) same)
          ∙ sym (map-append (content_id keys) some.texts (text ∷ [])));
      works = works_as (LeavesCommitted store) (λ (_ : T). AddsTexts (some.texts ++ text ∷ []) store now) (LeavesCommitted store)
          (λ (_ : Unit {0}). AddsTexts (some.texts ++ text ∷ []) store now) a c n k x tt (λ h g e. e) (λ h g e. e) last;
    }

-- where memory was refused behind what was done
pub works_spent : {T U : Type 0} (E : History → History → Type 0) (Q1 : T → History → History → Type 0) (Q : U → History → History → Type 0)
    (a b : Option Told) (n m : ℕ) (x : T) → Works E Q1 a b n m (Ok x) → Works E Q a b n m (Err Carry.Memory)
works_spent E Q1 Q a b n m x p = record { each = p.each; end = tt; ends = p.ends; cause = p.cause }

-- ---- why one isn't added

-- a device was told before, where it is told now
pub some_back : (E : History → History → Type 0) (a b : Option Told) (X : Type 0) → Between a b E → IfSome b (λ _. X) → IfSome a (λ _. X)
some_back E None b X p x = tt
some_back E (Some told) b X p x = subst (λ (o : Option Told). IfSome o (λ _. X)) p.1 x

pub renewal_still : (keys : Keys) (archive : ArchiveText) (fault : CarryFault) → RefusesRenewal keys archive fault → target_failed fault ≡ false
renewal_still keys archive Carry.Record refused = refl
renewal_still keys archive Carry.Memory refused = refl
renewal_still keys archive (Carry.Target Stores.Entropy) refused = refl
renewal_still keys archive (Carry.Target (Stores.Repo fault)) refused = absurd refused
renewal_still keys archive (Carry.Target (Stores.Write fault)) refused = absurd refused
renewal_still keys archive (Carry.Target (Stores.Nonce fault)) refused = absurd refused
renewal_still keys archive (Carry.Target Stores.Committed) refused = absurd refused
renewal_still keys archive (Carry.Target Stores.TooLarge) refused = absurd refused
renewal_still keys archive (Carry.Target Stores.Memory) refused = absurd refused
renewal_still keys archive (Carry.Source fault) refused = absurd refused
renewal_still keys archive (Carry.Taken name) refused = absurd refused
renewal_still keys archive (Carry.NotFound name) refused = absurd refused
renewal_still keys archive Carry.Pieces refused = absurd refused

pub renewal_unread : (keys : Keys) (archive : ArchiveText) (fault : CarryFault) → RefusesRenewal keys archive fault → shelf_failed fault ≡ false
renewal_unread keys archive Carry.Record refused = refl
renewal_unread keys archive Carry.Memory refused = refl
renewal_unread keys archive (Carry.Target refusal) refused = refl
renewal_unread keys archive (Carry.Source fault) refused = absurd refused
renewal_unread keys archive (Carry.Taken name) refused = refl
renewal_unread keys archive (Carry.NotFound name) refused = refl
renewal_unread keys archive Carry.Pieces refused = refl

-- there is no text of it
pub renewal_refused : (keys : Keys) (archive : ArchiveText) (drawn drawn_now : Option (List ℕ)) (now : Option Told) (fault : CarryFault)
    → RefusesRenewal keys archive fault → RefusesNewRecord keys archive drawn drawn_now now fault
renewal_refused keys archive drawn drawn_now now Carry.Record refused = refused
renewal_refused keys archive drawn drawn_now now Carry.Memory refused = tt
renewal_refused keys archive drawn drawn_now now (Carry.Target Stores.Entropy) refused = told_any now (λ f. Unit {0}) (λ f. tt)
renewal_refused keys archive drawn drawn_now now (Carry.Target (Stores.Repo fault)) refused = absurd refused
renewal_refused keys archive drawn drawn_now now (Carry.Target (Stores.Write fault)) refused = absurd refused
renewal_refused keys archive drawn drawn_now now (Carry.Target (Stores.Nonce fault)) refused = absurd refused
renewal_refused keys archive drawn drawn_now now (Carry.Target Stores.Committed) refused = absurd refused
renewal_refused keys archive drawn drawn_now now (Carry.Target Stores.TooLarge) refused = absurd refused
renewal_refused keys archive drawn drawn_now now (Carry.Target Stores.Memory) refused = absurd refused
renewal_refused keys archive drawn drawn_now now (Carry.Source fault) refused = absurd refused
renewal_refused keys archive drawn drawn_now now (Carry.Taken name) refused = absurd refused
renewal_refused keys archive drawn drawn_now now (Carry.NotFound name) refused = absurd refused
renewal_refused keys archive drawn drawn_now now Carry.Pieces refused = absurd refused

-- the store refuses it
module _ (store : Store) (archive : ArchiveText) (text : List ℕ) (drawn drawn_now : Option (List ℕ)) (now : Option Told)
    (renewal : DrawsRenewal (repo_view store.repo).keys archive text drawn drawn_now) where
  -- What is said of a refusal.
  abbrev Says : StoreRefusal → Type 0
  Says refusal = RefusesNewRecord (repo_view store.repo).keys archive drawn drawn_now now (target_fault refusal)

  abbrev Stops : StoreRefusal → Type 0
  Stops refusal = IfSome now (λ t. StopsAt t.history.start (told_files t) (repo_view store.repo).keys refusal)

  one_refused : (told : Told) (refusal : StoreRefusal) → RefusesAdd store text (told_files told) refusal → Stops refusal → Says refusal
  one_refused told (Stores.Repo (Repos.Blob id fault)) refused stops = ((text, (renewal, refused.1.0)), stops)
  one_refused told (Stores.Repo Repos.NoCommit) refused stops = absurd refused.1
  one_refused told (Stores.Repo (Repos.Damaged segment at)) refused stops = absurd refused.1
  one_refused told (Stores.Repo (Repos.Config fault)) refused stops = absurd refused.1
  one_refused told (Stores.Repo (Repos.Key fault)) refused stops = absurd refused.1
  one_refused told (Stores.Repo (Repos.Missing id)) refused stops = absurd refused.1
  one_refused told (Stores.Repo (Repos.Manifest fault)) refused stops = absurd refused.1
  one_refused told (Stores.Repo (Repos.Archive id fault)) refused stops = absurd refused.1
  one_refused told (Stores.Repo (Repos.Item id fault)) refused stops = absurd refused.1
  one_refused told (Stores.Repo (Repos.Size id)) refused stops = absurd refused.1
  one_refused told (Stores.Repo (Repos.KeyFile fault)) refused stops = absurd refused.1
  one_refused told (Stores.Repo (Repos.Other file config)) refused stops = absurd refused.1
  one_refused told (Stores.Repo Repos.NoKey) refused stops = absurd refused.1
  one_refused told (Stores.Repo Repos.Device) refused stops = tt
  one_refused told (Stores.Repo Repos.Memory) refused stops = absurd refused.1
  one_refused told (Stores.Write fault) refused stops = stops
  one_refused told (Stores.Nonce fault) refused stops = stops
  one_refused told Stores.Committed refused stops = stops
  one_refused told Stores.TooLarge refused stops = absurd refused.1
  one_refused told Stores.Entropy refused stops = stops
  one_refused told Stores.Memory refused stops = tt

  pub new_refused : (before : Option Told) (refusal : StoreRefusal) → IfSome before (λ t. RefusesAdd store text (told_files t) refusal) → Stops refusal
      → IfSome before (λ _. Says refusal)
  new_refused before refusal refused stops = IfSome_then before refused (λ t r. one_refused t refusal r stops)

-- a place parts a list
parted_at : (untagged : List Untagged) (place : ℕ) (d : Untagged) → place < length untagged
    → (rest : List Untagged) × (untagged ≡ take place untagged ++ get_or untagged place d ∷ rest)
parted_at [] place d lt = absurd (omega (arith, lt))
parted_at (u ∷ us) zero d lt = (us, refl)
parted_at (u ∷ us) (suc place) d lt =
    let rest = parted_at us place d (omega (arith, lt)) in (rest.0, ap (λ (l : List Untagged). u ∷ l) rest.1)

-- one of several isn't
pub one_of : (keys : Keys) (untagged : List Untagged) (place : ℕ) (d : Untagged) (texts : List (List ℕ)) (drawn drawn_then drawn_now : Option (List ℕ))
    (now : Option Told) (fault : CarryFault) → place < length untagged → d ≡ get_or untagged place d
    → DrawsRenewals keys (olds_view (take place untagged)) texts drawn drawn_then
    → RefusesNewRecord keys (archive_view d.archive) drawn_then drawn_now now fault → RefusesSome keys (olds_view untagged) drawn drawn_now now fault
one_of keys untagged place d texts drawn drawn_then drawn_now now fault lt at drew refused =
    let parts = parted_at untagged place d lt in
    let one = get_or untagged place d in
    inr (record {
      done = olds_view (take place untagged);
      old = old_view one;
      rest = olds_view parts.0;
      split = ap olds_view parts.1 ∙ map-append old_view (take place untagged) (one ∷ parts.0);
      texts = texts;
      middle = drawn_then;
      drew = drew;
      refused = subst (λ (u : Untagged). RefusesNewRecord keys (archive_view u.archive) drawn_then drawn_now now fault) at refused;
    })
