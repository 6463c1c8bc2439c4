-- Lemmas on specs/Walk.antt: something comes of a stream, and one thing alone.
use Rattle.std.proofs.Common.{◌≡◌, ◌⊎◌, inl, inr, ℕ, List, [], ◌∷◌, ◌++◌, drop, Option, Some, None, refl, sym, ◌∙◌, ap, subst}
use Rattle.ferry_disk.specs.Files.{Files}
use Rattle.ferry_item.specs.Item.{ItemText}
use Rattle.ferry_item.specs.Stream.{front_item, an_item, nothing_yet, a_fault, End, Reads, reads_item, feeds_piece, ends, fails}
use Rattle.ferry_item.specs.declared.fault.ItemFault.{ItemFault}
use Rattle.ferry_item.specs.declared.fault.ItemFault.TheVariants as Items
use Rattle.ferry_item.proofs.StreamLemmas.{some_reading, nothing_stands}
use Rattle.ferry_log.specs.State.{LogState, FitsFiles}
use Rattle.ferry_mac.specs.declared.keys.Keys.{Keys}
use Rattle.ferry_repo.specs.Fault.{IsOfFiles}
use Rattle.ferry_repo.specs.Objects.{HoldsChunk, RefusesChunk}
use Rattle.ferry_repo.specs.Walk.{Comes, item_comes, chunk_comes, chunk_refused, item_faulty, stream_whole, stream_cut, WalkState, IsToCome}
use Rattle.ferry_repo.specs.declared.fault.RepoFault.{RepoFault}
use Rattle.ferry_repo.specs.declared.fault.RepoFault.TheVariants.{Item}
use Rattle.ferry_repo.specs.declared.walk.Ending.{Ending}
use Rattle.ferry_repo.specs.declared.walk.Ending.TheVariants.{Open, Whole, Cut}
use Rattle.ferry_repo.proofs.LawLemmas.{some_chunk, one_chunk, chunk_apart, one_chunk_fault}
use Rattle.ferry_repo.proofs.WalkLemmas.{at}

-- ---- something comes

-- what comes of these bytes and chunks
record IsComing (files : Files) (log : LogState) (keys : Keys) (id ahead : List ℕ) (ids : List (List ℕ)) : Type 0 where
  items : List ItemText
  end : Option RepoFault
  comes : Comes files log keys id ahead ids items end

reads_then : (files : Files) (log : LogState) (keys : Keys) (id ahead : List ℕ) (ids pieces : List (List ℕ)) (items : List ItemText) (end : End)
    → Reads ahead pieces items end → pieces ≡ []
    → ((left : List ℕ) → front_item left ≡ nothing_yet → IsComing files log keys id left ids) → IsComing files log keys id ahead ids
reads_then files log keys id ahead ids pieces items end (reads_item _ rest _ text later _ front h) one nothing =
    let m = reads_then files log keys id rest ids pieces later end h one nothing in
    record { items = text ∷ m.items; end = m.end; comes = item_comes ahead rest ids text m.items m.end front m.comes }
reads_then files log keys id ahead ids pieces items end (feeds_piece _ piece others _ _ front h) one nothing = absurd cc
reads_then files log keys id ahead ids pieces items end (ends _ front) one nothing = nothing ahead front
reads_then files log keys id ahead ids pieces items end (fails _ _ fault front) one nothing =
    record { items = []; end = Some (Item id fault); comes = item_faulty ahead ids fault front }

end_comes : (files : Files) (log : LogState) (keys : Keys) (id left : List ℕ) → front_item left ≡ nothing_yet → IsComing files log keys id left []
end_comes files log keys id [] front = record { items = []; end = None; comes = stream_whole }
end_comes files log keys id (b ∷ bs) front =
    record { items = []; end = Some (Item id Items.Rest); comes = stream_cut (b ∷ bs) front (λ e. let no : ⊥ = cc in no) }

chunk_then : (files : Files) (log : LogState) (keys : Keys) (id left chunk : List ℕ) (ids : List (List ℕ)) → front_item left ≡ nothing_yet
    → ((content : List ℕ) × HoldsChunk files log keys chunk content) ⊎ ((fault : RepoFault) × IsOfFiles fault × RefusesChunk files log keys chunk fault)
    → ((bytes : List ℕ) → IsComing files log keys id bytes ids) → IsComing files log keys id left (chunk ∷ ids)
chunk_then files log keys id left chunk ids front (inl holds) later =
    let m = later (left ++ holds.0) in
    record { items = m.items; end = m.end; comes = chunk_comes left chunk holds.0 ids m.items m.end front holds.1 m.comes }
chunk_then files log keys id left chunk ids front (inr refuses) later =
    record { items = []; end = Some refuses.0; comes = chunk_refused left chunk ids refuses.0 front refuses.1 refuses.2 }

all_come : (files : Files) (log : LogState) (keys : Keys) (id : List ℕ) (ids : List (List ℕ)) → FitsFiles files log → (ahead : List ℕ)
    → IsComing files log keys id ahead ids
all_come files log keys id [] fits ahead =
    let read = some_reading ahead [] in
    reads_then files log keys id ahead [] [] read.0 read.1.0 read.1.1 refl (end_comes files log keys id)
all_come files log keys id (i ∷ is) fits ahead =
    let read = some_reading ahead [] in
    reads_then files log keys id ahead (i ∷ is) [] read.0 read.1.0 read.1.1 refl
    (λ left front. chunk_then files log keys id left i is front (some_chunk files log keys i fits) (all_come files log keys id is fits))

pub some_comes : (files : Files) (log : LogState) (keys : Keys) (id ahead : List ℕ) (ids : List (List ℕ)) → FitsFiles files log
    → (items : List ItemText) × ((end : Option RepoFault) × Comes files log keys id ahead ids items end)
some_comes files log keys id ahead ids fits = let m = all_come files log keys id ids fits ahead in (m.items, (m.end, m.comes))

-- what is to come from where a walk stands
to_come_at : (files : Files) (log : LogState) (keys : Keys) (id : List ℕ) (ids : List (List ℕ)) (read : ℕ) (ahead : List ℕ) (ending : Ending)
    → FitsFiles files log
    → (items : List ItemText) × ((end : Option RepoFault) × IsToCome files log keys (at id ids read ahead ending) items end)
unfolding IsToCome
to_come_at files log keys id ids read ahead Open fits = some_comes files log keys id ahead (drop read ids) fits
to_come_at files log keys id ids read ahead Whole fits = ([], (None, (refl, refl)))
to_come_at files log keys id ids read ahead Cut fits = ([], (Some (Item id Items.Rest), (refl, refl)))

pub some_to_come : (files : Files) (log : LogState) (keys : Keys) (walk : WalkState) → FitsFiles files log
    → (items : List ItemText) × ((end : Option RepoFault) × IsToCome files log keys walk items end)
some_to_come files log keys walk fits = to_come_at files log keys walk.id walk.ids walk.read walk.ahead walk.ending fits

-- ---- and one thing alone

same_item : (text other : ItemText) (rest after : List ℕ) → an_item text rest ≡ an_item other after → (text ≡ other) × (rest ≡ after)
same_item text other rest after e = (cc, cc)

same_fault : (f g : ItemFault) → a_fault f ≡ a_fault g → f ≡ g
same_fault f g e = cc

item_not_nothing : (text : ItemText) (rest : List ℕ) → an_item text rest ≡ nothing_yet → ⊥
item_not_nothing text rest e = cc

item_not_fault : (text : ItemText) (rest : List ℕ) (fault : ItemFault) → an_item text rest ≡ a_fault fault → ⊥
item_not_fault text rest fault e = cc

nothing_not_fault : (fault : ItemFault) → nothing_yet ≡ a_fault fault → ⊥
nothing_not_fault fault e = cc

pub one_comes : (files : Files) (log : LogState) (keys : Keys) (id ahead : List ℕ) (ids : List (List ℕ)) (items others : List ItemText)
    (end other : Option RepoFault) → Comes files log keys id ahead ids items end → Comes files log keys id ahead ids others other
    → (items ≡ others) × (end ≡ other)
one_comes files log keys id ahead ids items others end other (item_comes _ rest _ text later _ is h) (item_comes _ after _ found rests _ is2 h2) =
    let same = same_item text found rest after (sym is ∙ is2) in
    let more = one_comes files log keys id rest ids later rests end other h
    (subst (λ (s : List ℕ). Comes files log keys id s ids rests other) (sym same.1) h2) in
    (ap (λ (t : ItemText). t ∷ later) same.0 ∙ ap (λ (ts : List ItemText). found ∷ ts) more.0, more.1)
one_comes files log keys id ahead ids items others end other (item_comes _ rest _ text later _ is h) (chunk_comes _ _ _ _ _ _ is2 holds h2) =
    absurd (item_not_nothing text rest (sym is ∙ is2))
one_comes files log keys id ahead ids items others end other (item_comes _ rest _ text later _ is h) (chunk_refused _ _ _ fault is2 of_files refuses) =
    absurd (item_not_nothing text rest (sym is ∙ is2))
one_comes files log keys id ahead ids items others end other (item_comes _ rest _ text later _ is h) (item_faulty _ _ fault is2) =
    absurd (item_not_fault text rest fault (sym is ∙ is2))
one_comes files log keys id ahead ids items others end other (item_comes _ rest _ text later _ is h) stream_whole =
    absurd (item_not_nothing text rest (sym is ∙ nothing_stands))
one_comes files log keys id ahead ids items others end other (item_comes _ rest _ text later _ is h) (stream_cut _ is2 some) =
    absurd (item_not_nothing text rest (sym is ∙ is2))
one_comes files log keys id ahead ids items others end other (chunk_comes _ _ _ _ _ _ is holds h) (item_comes _ rest _ text later _ is2 h2) =
    absurd (item_not_nothing text rest (sym is2 ∙ is))
one_comes files log keys id ahead ids items others end other (chunk_comes _ chunk a more _ _ is holds h) (chunk_comes _ _ b _ _ _ is2 holds2 h2) =
    one_comes files log keys id (ahead ++ a) more items others end other h
    (subst (λ (s : List ℕ). Comes files log keys id (ahead ++ s) more others other) (sym (one_chunk files log keys chunk a b holds holds2)) h2)
one_comes files log keys id ahead ids items others end other (chunk_comes _ chunk a _ _ _ is holds h) (chunk_refused _ _ _ fault is2 of_files refuses) =
    absurd (chunk_apart files log keys chunk a fault holds of_files refuses)
one_comes files log keys id ahead ids items others end other (chunk_comes _ _ _ _ _ _ is holds h) (item_faulty _ _ fault is2) =
    absurd (nothing_not_fault fault (sym is ∙ is2))
one_comes files log keys id ahead ids items others end other (chunk_refused _ _ _ fault is of_files refuses) (item_comes _ rest _ text later _ is2 h2) =
    absurd (item_not_nothing text rest (sym is2 ∙ is))
one_comes files log keys id ahead ids items others end other (chunk_refused _ chunk _ fault is of_files refuses) (chunk_comes _ _ b _ _ _ is2 holds h2) =
    absurd (chunk_apart files log keys chunk b fault holds of_files refuses)
one_comes files log keys id ahead ids items others end other (chunk_refused _ chunk _ f is of_f refuses) (chunk_refused _ _ _ g is2 of_g refuses2) =
    (refl, ap (λ (r : RepoFault). Some r) (one_chunk_fault files log keys chunk f g of_f of_g refuses refuses2))
one_comes files log keys id ahead ids items others end other (chunk_refused _ _ _ f is of_files refuses) (item_faulty _ _ fault is2) =
    absurd (nothing_not_fault fault (sym is ∙ is2))
one_comes files log keys id ahead ids items others end other (item_faulty _ _ fault is) (item_comes _ rest _ text later _ is2 h2) =
    absurd (item_not_fault text rest fault (sym is2 ∙ is))
one_comes files log keys id ahead ids items others end other (item_faulty _ _ fault is) (chunk_comes _ _ _ _ _ _ is2 holds h2) =
    absurd (nothing_not_fault fault (sym is2 ∙ is))
one_comes files log keys id ahead ids items others end other (item_faulty _ _ fault is) (chunk_refused _ _ _ f is2 of_files refuses) =
    absurd (nothing_not_fault fault (sym is2 ∙ is))
one_comes files log keys id ahead ids items others end other (item_faulty _ _ fault is) (item_faulty _ _ found is2) =
    (refl, ap (λ (f : ItemFault). Some (Item id f)) (same_fault fault found (sym is ∙ is2)))
one_comes files log keys id ahead ids items others end other (item_faulty _ _ fault is) stream_whole =
    absurd (nothing_not_fault fault (sym nothing_stands ∙ is))
one_comes files log keys id ahead ids items others end other (item_faulty _ _ fault is) (stream_cut _ is2 some) =
    absurd (nothing_not_fault fault (sym is2 ∙ is))
one_comes files log keys id ahead ids items others end other stream_whole (item_comes _ rest _ text later _ is2 h2) =
    absurd (item_not_nothing text rest (sym is2 ∙ nothing_stands))
one_comes files log keys id ahead ids items others end other stream_whole (item_faulty _ _ fault is2) =
    absurd (nothing_not_fault fault (sym nothing_stands ∙ is2))
one_comes files log keys id ahead ids items others end other stream_whole stream_whole = (refl, refl)
one_comes files log keys id ahead ids items others end other stream_whole (stream_cut _ is2 some) = absurd (some refl)
one_comes files log keys id ahead ids items others end other (stream_cut _ is some) (item_comes _ rest _ text later _ is2 h2) =
    absurd (item_not_nothing text rest (sym is2 ∙ is))
one_comes files log keys id ahead ids items others end other (stream_cut _ is some) (item_faulty _ _ fault is2) =
    absurd (nothing_not_fault fault (sym is ∙ is2))
one_comes files log keys id ahead ids items others end other (stream_cut _ is some) stream_whole = absurd (some refl)
one_comes files log keys id ahead ids items others end other (stream_cut _ is some) (stream_cut _ is2 some2) = (refl, refl)
