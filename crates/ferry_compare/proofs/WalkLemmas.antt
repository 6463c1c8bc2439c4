-- Lemmas on walks: what comes of a whole stream is what a walk that fits has answered, and behind it what is to come.
use Rattle.std.proofs.Common.{◌≡◌, ℕ, List, [], ◌∷◌, ◌++◌, take, drop, Option, Some, None, refl, sym, ◌∙◌, ap, subst, arith}
use Rattle.std.proofs.lemmas.List.{append_assoc, append-nil, append_cancel_left, append_cancel_right, take-append-drop, drop_all}
use Rattle.ferry_disk.specs.Files.{Files}
use Rattle.ferry_item.specs.Item.{ItemText}
use Rattle.ferry_item.specs.Stream.{Front, front_item, an_item, nothing_yet, a_fault, ItemsOf, no_more_items, one_more_item, item_stands, joined}
use Rattle.ferry_item.specs.declared.fault.ItemFault.{ItemFault}
use Rattle.ferry_item.proofs.FrontLemmas.{stands_is, item_more, fault_more}
use Rattle.ferry_item.proofs.StreamLemmas.{nothing_stands}
use Rattle.ferry_log.specs.State.{LogState, FitsFiles}
use Rattle.ferry_mac.specs.declared.keys.Keys.{Keys}
use Rattle.ferry_repo.specs.Objects.{HoldsChunk}
use Rattle.ferry_repo.specs.Walk.{HoldChunks, Comes, item_comes, chunk_comes, chunk_refused}
use Rattle.ferry_repo.specs.Walk.{item_faulty, stream_whole, stream_cut, WalkState, IsToCome, FitsWalk}
use Rattle.ferry_repo.specs.declared.fault.RepoFault.{RepoFault}
use Rattle.ferry_repo.specs.declared.walk.Ending.{Ending}
use Rattle.ferry_repo.specs.declared.walk.Ending.TheVariants.{Open, Whole, Cut}
use Rattle.ferry_repo.proofs.WalkLawLemmas.{some_to_come, one_comes}
use Rattle.ferry_repo.proofs.WalkLemmas.{at}
use Rattle.ferry_repo.specs.Opening.{RepoState}
use Rattle.ferry_compare.specs.Steps.{Goes, HasNoItem}

-- ---- fronts

no_item : (item : ItemText) (rest : List ℕ) → nothing_yet ≡ an_item item rest → ⊥
no_item item rest e = let no : ⊥ = cc in no

no_fault : (fault : ItemFault) → nothing_yet ≡ a_fault fault → ⊥
no_fault fault e = let no : ⊥ = cc in no

item_or_fault : (item : ItemText) (rest : List ℕ) (fault : ItemFault) → an_item item rest ≡ a_fault fault → ⊥
item_or_fault item rest fault e = let no : ⊥ = cc in no

same_front : (a b : ItemText) (rest more : List ℕ) → an_item a rest ≡ an_item b more → (a ≡ b) × (rest ≡ more)
same_front a b rest more e = (cc, cc)

same_fault : (f g : ItemFault) → a_fault f ≡ a_fault g → f ≡ g
same_fault f g e = cc

-- ---- chunks that were read early

module _ (files : Files) (log : LogState) (keys : Keys) (id : List ℕ) where
  -- what comes where a fault stands in front
  fault_comes : (bytes : List ℕ) (ids others : List (List ℕ)) (items : List ItemText) (end : Option RepoFault) (short : List ℕ) (fault : ItemFault)
      → front_item bytes ≡ a_fault fault → front_item short ≡ a_fault fault → Comes files log keys id bytes ids items end
      → Comes files log keys id short others items end
  fault_comes bytes ids others items end short fault e there (item_comes _ rest _ item later _ front h) =
      absurd (item_or_fault item rest fault (sym front ∙ e))
  fault_comes bytes ids others items end short fault e there (chunk_comes _ chunk content more _ _ front holds h) = absurd (no_fault fault (sym front ∙ e))
  fault_comes bytes ids others items end short fault e there (chunk_refused _ chunk more other front of_files refuses) =
      absurd (no_fault fault (sym front ∙ e))
  fault_comes bytes ids others items end short fault e there (item_faulty _ _ other front) =
      item_faulty short others other (there ∙ ap a_fault (sym (same_fault other fault (sym front ∙ e))))
  fault_comes bytes ids others items end short fault e there stream_whole = absurd (no_fault fault (sym nothing_stands ∙ e))
  fault_comes bytes ids others items end short fault e there (stream_cut _ front some) = absurd (no_fault fault (sym front ∙ e))

  -- it is the same whether a chunk was read before the items in front of it or behind them
  unread : (whole bytes chunk content : List ℕ) (ids : List (List ℕ)) (items : List ItemText) (end : Option RepoFault) (front : Front)
      → front_item bytes ≡ front → whole ≡ bytes ++ content → HoldsChunk files log keys chunk content → Comes files log keys id whole ids items end
      → Comes files log keys id bytes (chunk ∷ ids) items end
  unread whole bytes chunk content ids items end nothing_yet e is holds comes =
      chunk_comes bytes chunk content ids items end e holds (subst (λ (s : List ℕ). Comes files log keys id s ids items end) is comes)
  unread whole bytes chunk content ids items end (a_fault fault) e is holds comes =
      fault_comes whole ids (chunk ∷ ids) items end bytes fault (ap front_item is ∙ fault_more bytes content fault e) e comes
  unread whole bytes chunk content ids items end (an_item item rest) e is holds (item_comes _ after _ found later _ front h) =
      let same = same_front found item after (rest ++ content) (sym front ∙ (ap front_item is ∙ item_more bytes rest content item e)) in
      item_comes bytes rest (chunk ∷ ids) found later end (e ∙ ap (λ (t : ItemText). an_item t rest) (sym same.0))
      (unread after rest chunk content ids later end (front_item rest) refl same.1 holds h)
  unread whole bytes chunk content ids items end (an_item item rest) e is holds (chunk_comes _ other more others _ _ front held h) =
      absurd (no_item item (rest ++ content) (sym front ∙ (ap front_item is ∙ item_more bytes rest content item e)))
  unread whole bytes chunk content ids items end (an_item item rest) e is holds (chunk_refused _ other others fault front of_files refuses) =
      absurd (no_item item (rest ++ content) (sym front ∙ (ap front_item is ∙ item_more bytes rest content item e)))
  unread whole bytes chunk content ids items end (an_item item rest) e is holds (item_faulty _ _ fault front) =
      absurd (item_or_fault item (rest ++ content) fault (sym (ap front_item is ∙ item_more bytes rest content item e) ∙ front))
  unread whole bytes chunk content ids items end (an_item item rest) e is holds stream_whole =
      absurd (no_item item (rest ++ content) (sym nothing_stands ∙ (ap front_item is ∙ item_more bytes rest content item e)))
  unread whole bytes chunk content ids items end (an_item item rest) e is holds (stream_cut _ front some) =
      absurd (no_item item (rest ++ content) (sym front ∙ (ap front_item is ∙ item_more bytes rest content item e)))

  unread_all : (bytes : List ℕ) (chunks contents ids : List (List ℕ)) (items : List ItemText) (end : Option RepoFault)
      → HoldChunks files log keys chunks contents → Comes files log keys id (bytes ++ joined contents) ids items end
      → Comes files log keys id bytes (chunks ++ ids) items end
  unread_all bytes [] [] ids items end hold comes = subst (λ (s : List ℕ). Comes files log keys id s ids items end) (append-nil bytes) comes
  unread_all bytes [] (c ∷ cs) ids items end hold comes = absurd hold
  unread_all bytes (k ∷ ks) [] ids items end hold comes = absurd hold
  unread_all bytes (k ∷ ks) (c ∷ cs) ids items end hold comes =
      unread (bytes ++ c) bytes k c (ks ++ ids) items end (front_item bytes) refl refl hold.0
      (unread_all (bytes ++ c) ks cs ids items end hold.1
      (subst (λ (s : List ℕ). Comes files log keys id s ids items end) (sym (append_assoc bytes c (joined cs))) comes))

  -- ---- items that were answered

  answered_comes : (front : List ℕ) (answered : List ItemText) (left : List ℕ) (ids : List (List ℕ)) (items : List ItemText) (end : Option RepoFault)
      → ItemsOf front answered → Comes files log keys id left ids items end → Comes files log keys id (front ++ left) ids (answered ++ items) end
  answered_comes front answered left ids items end no_more_items comes = comes
  answered_comes front answered left ids items end (one_more_item pairs text spelling rest later spells is h) comes =
      item_comes ((spelling ++ rest) ++ left) (rest ++ left) ids text (later ++ items) end
      (ap front_item (append_assoc spelling rest left)
      ∙ stands_is (spelling ++ (rest ++ left)) (an_item text (rest ++ left)) (item_stands pairs text spelling (rest ++ left) spells is))
      (answered_comes rest later left ids items end h comes)

  -- ---- walks that fit

  left_comes : (ids : List (List ℕ)) (read : ℕ) (ahead : List ℕ) (ending : Ending) (fits : FitsWalk files log keys (at id ids read ahead ending))
      (items : List ItemText) (end : Option RepoFault) → IsToCome files log keys (at id ids read ahead ending) items end
      → Comes files log keys id fits.left (drop read ids) items end
  unfolding IsToCome
  left_comes ids read ahead Open fits items end h =
      subst (λ (s : List ℕ). Comes files log keys id s (drop read ids) items end) (sym fits.left_is) h
  left_comes ids read ahead Whole fits items end h = rw (fits.left_is, h.0, h.1, drop_all read ids (omega (arith, fits.met))) stream_whole
  left_comes ids read ahead Cut fits items end h =
      rw (h.0, h.1, drop_all read ids (omega (arith, fits.met))) (stream_cut fits.left fits.left_is.1 fits.left_is.0)

  all_comes : (ids : List (List ℕ)) (read : ℕ) (ahead : List ℕ) (ending : Ending) (fits : FitsWalk files log keys (at id ids read ahead ending))
      (items : List ItemText) (end : Option RepoFault) → IsToCome files log keys (at id ids read ahead ending) items end
      → Comes files log keys id [] ids (fits.items ++ items) end
  all_comes ids read ahead ending fits items end h =
      subst (λ (is : List (List ℕ)). Comes files log keys id [] is (fits.items ++ items) end) (take-append-drop read ids)
      (unread_all [] (take read ids) fits.contents (drop read ids) (fits.items ++ items) end fits.hold
      (subst (λ (s : List ℕ). Comes files log keys id s (drop read ids) (fits.items ++ items) end) (sym fits.split)
      (answered_comes fits.front fits.items fits.left (drop read ids) items end fits.answered
      (left_comes ids read ahead ending fits items end h))))

-- of the whole stream comes what the walk has answered, and then what is to come
pub fits_comes : (files : Files) (log : LogState) (keys : Keys) (walk : WalkState) (fits : FitsWalk files log keys walk) (items : List ItemText)
    (end : Option RepoFault) → IsToCome files log keys walk items end → Comes files log keys walk.id [] walk.ids (fits.items ++ items) end
fits_comes files log keys walk fits items end h = all_comes files log keys walk.id walk.ids walk.read walk.ahead walk.ending fits items end h

-- a walk that goes to an item has answered it as well
pub goes_items : (files : Files) (repo : RepoState) (from now : WalkState) (item : ItemText) (fits : FitsWalk files repo.log repo.keys from)
    (goes : Goes files repo from item now) → FitsFiles files repo.log → goes.fits.items ≡ fits.items ++ (item ∷ [])
goes_items files repo from now item fits goes log_fits =
    let log = repo.log in
    let keys = repo.keys in
    let m = some_to_come files log keys now log_fits in
    let before = fits_comes files log keys from fits (item ∷ m.0) m.1.0 (goes.leads m.0 m.1.0 m.1.1) in
    let after = fits_comes files log keys now goes.fits m.0 m.1.0 m.1.1 in
    let same = one_comes files log keys from.id [] from.ids (goes.fits.items ++ m.0) (fits.items ++ (item ∷ m.0)) m.1.0 m.1.0
    (subst (λ (i : List ℕ). Comes files log keys i [] from.ids (goes.fits.items ++ m.0) m.1.0) goes.id
    (subst (λ (is : List (List ℕ)). Comes files log keys now.id [] is (goes.fits.items ++ m.0) m.1.0) goes.ids after))
    before in
    append_cancel_right goes.fits.items (fits.items ++ (item ∷ [])) m.0 (same.0 ∙ sym (append_assoc fits.items (item ∷ []) m.0))

-- ---- one answer

-- from where a walk that fits stands one end is to come
pub one_to_come : (files : Files) (log : LogState) (keys : Keys) (walk : WalkState) (fits : FitsWalk files log keys walk) (items others : List ItemText)
    (end other : Option RepoFault) → IsToCome files log keys walk items end → IsToCome files log keys walk others other
    → (items ≡ others) × (end ≡ other)
one_to_come files log keys walk fits items others end other a b =
    let same = one_comes files log keys walk.id [] walk.ids (fits.items ++ items) (fits.items ++ others) end other
    (fits_comes files log keys walk fits items end a) (fits_comes files log keys walk fits others other b) in
    (append_cancel_left fits.items items others same.0, same.1)

pub one_next : (files : Files) (repo : RepoState) (from now : WalkState) (item other : ItemText) (others : List ItemText) (end : Option RepoFault)
    (fits : FitsWalk files repo.log repo.keys from) → FitsFiles files repo.log → Goes files repo from item now
    → IsToCome files repo.log repo.keys from (other ∷ others) end → item ≡ other
one_next files repo from now item other others end fits log_fits goes come =
    let m = some_to_come files repo.log repo.keys now log_fits in
    let same = one_to_come files repo.log repo.keys from fits (item ∷ m.0) (other ∷ others) m.1.0 end (goes.leads m.0 m.1.0 m.1.1) come in
    let both : item ∷ m.0 ≡ other ∷ others = same.0 in
    cc

-- an item comes, or the stream ends
pub next_or_end : (files : Files) (repo : RepoState) (from now : WalkState) (item : ItemText) (end : Option RepoFault)
    (fits : FitsWalk files repo.log repo.keys from) → FitsFiles files repo.log → Goes files repo from item now
    → IsToCome files repo.log repo.keys from [] end → ⊥
next_or_end files repo from now item end fits log_fits goes come =
    let m = some_to_come files repo.log repo.keys now log_fits in
    let same = one_to_come files repo.log repo.keys from fits (item ∷ m.0) [] m.1.0 end (goes.leads m.0 m.1.0 m.1.1) come in
    let both : item ∷ m.0 ≡ [] = same.0 in
    cc

pub end_or_next : (files : Files) (repo : RepoState) (walk : WalkState) (fits : FitsWalk files repo.log repo.keys walk) (end : Option RepoFault)
    → IsToCome files repo.log repo.keys walk [] end → HasNoItem files repo walk
end_or_next files repo walk fits end come item items next =
    let same = one_to_come files repo.log repo.keys walk fits [] (item ∷ items) end None come next in
    let both : [] ≡ item ∷ items = same.0 in
    cc

pub end_or_refused : (files : Files) (repo : RepoState) (walk : WalkState) (fits : FitsWalk files repo.log repo.keys walk) (fault : RepoFault)
    → IsToCome files repo.log repo.keys walk [] (Some fault) → IsToCome files repo.log repo.keys walk [] None → ⊥
end_or_refused files repo walk fits fault refused ends =
    let same = one_to_come files repo.log repo.keys walk fits [] [] (Some fault) None refused ends in
    let both : Some fault ≡ None = same.1 in
    cc
