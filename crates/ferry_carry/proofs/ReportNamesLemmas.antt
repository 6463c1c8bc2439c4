-- Lemmas on what was done and told of the archives of several names, one after another.
use Rattle.std.proofs.Common.{◌≡◌, ℕ, false, List, [], ◌∷◌, ◌++◌, Option, Ok, Err, Result, refl, sym, ◌∙◌, ap, subst, ◌≤◌, ◌<◌, ◌+◌}
use Rattle.std.proofs.Common.{length, take, drop, get_or, IfErr, IfSome, OnOk, ◌*◌, length-append, arith}
use Rattle.std.proofs.lemmas.List.{take-append-drop, take_all, take_more}
use Rattle.ferry_disk.proofs.MomentLemmas.{between_map}
use Rattle.ferry_disk.specs.Device.{Told}
use Rattle.ferry_disk.specs.Moments.{Between}
use Rattle.ferry_mac.specs.declared.keys.Keys.{Keys}
use Rattle.ferry_manifest.specs.Manifest.Text.{ManifestText}
use Rattle.ferry_repo.specs.Opening.{repo_view}
use Rattle.ferry_store.specs.Commit.{accepted_in, IsSettled}
use Rattle.ferry_store.specs.Store.{IsUnspent, StoreFits}
use Rattle.ferry_store.specs.declared.store.Store.{Store}
use Rattle.ferry_write.specs.Script.{AllDone}
use Rattle.ferry_piece.proofs.AddingLemmas.{HoldsAll, stops_then}
use Rattle.ferry_carry.proofs.GrowsLemmas.{Follows, follows_allows, grows_follows, grows_then}
use Rattle.ferry_piece.proofs.PutsLemmas.{front_all}
use Rattle.ferry_carry.proofs.HeldLemmas.{grows_all, held_at, held_then}
use Rattle.ferry_piece.proofs.WorkLemmas.{works_front, works_then}
use Rattle.ferry_carry.proofs.ThereLemmas.{Extends, extends_next}
use Rattle.ferry_carry.proofs.NamesLemmas.{lists_then, all_wider, all_then, filled_wider, filled_then}
use Rattle.ferry_carry.proofs.CountingLemmas.{counts_then}
use Rattle.ferry_carry.proofs.MomentLemmas.{reported_wider, reported_then, names_then}
use Rattle.ferry_carry.proofs.NextLemmas.{accepts_both, next_of}
use Rattle.ferry_carry.specs.Carrying.{Origin}
use Rattle.ferry_carry.specs.Counting.{CountsMore}
use Rattle.ferry_carry.specs.Filling.{FillsAll}
use Rattle.ferry_carry.specs.Grow.{AcceptsMore}
use Rattle.ferry_carry.specs.Listing.{ListsNames}
use Rattle.ferry_piece.specs.Puts.{Addition, AtBegin, border_behind}
use Rattle.ferry_carry.specs.Naming.{TaggedRecord, record_ids}
use Rattle.ferry_carry.specs.Telling.{CarriesNames, KeepsReported, Reports, TellsNames}
use Rattle.ferry_piece.specs.Work.{Works}
use Rattle.ferry_piece.specs.declared.fault.CarryFault.{CarryFault}
use Rattle.ferry_carry.specs.declared.options.Carried.{Carried}
use Rattle.ferry_piece.proofs.FewLemmas.{begun_more, begun_then}
use Rattle.ferry_carry.specs.States.{target_state, drawn_from}
use Rattle.ferry_carry.proofs.ReportLemmas.{EndsNames}

-- what was reported of one source was reported of another that is the same, under a name that is the same
pub reports_as : (from other : Origin) (some others : List (List ℕ)) (store now : Store) (carried after : Carried) (a b : Option Told) (n m : ℕ)
    (x y : Option (List ℕ)) (result : Result (Unit {0}) CarryFault) → other ≡ from → others ≡ some
    → Reports other others (target_state a n store) (target_state b m now) carried after (drawn_from x y) result
    → Reports from some (target_state a n store) (target_state b m now) carried after (drawn_from x y) result
reports_as from other some others store now carried after a b n m x y result is names p =
    subst (λ (f : Origin). Reports f some (target_state a n store) (target_state b m now) carried after (drawn_from x y) result) is
    (subst (λ (l : List (List ℕ)). Reports other l (target_state a n store) (target_state b m now) carried after (drawn_from x y) result) names p)

-- the numbers of more names behind some
counted_then : (accepted middle : ManifestText) (some others : List (List ℕ)) (added more : List Addition) (carried between after : Carried)
    (result : Result (Unit {0}) CarryFault) → Extends accepted some middle → CountsMore accepted some added carried between
    → OnOk result (CountsMore middle others more between after) → OnOk result (CountsMore accepted (some ++ others) (added ++ more) carried after)
counted_then accepted middle some others added more carried between after (Ok x) extends p q =
    counts_then accepted middle some others added more carried between after extends p q
counted_then accepted middle some others added more carried between after (Err fault) extends p q = tt

-- what was added for names, all of it
names_all : (from : Origin) (names : List (List ℕ)) (records : List TaggedRecord) (added : List Addition) (store now : Store) (a b : Option Told) (n m : ℕ)
    → Works (KeepsReported from names store added) (EndsNames {T = Unit {0}} from names records added store now) a b n m (Ok tt)
    → Between a b (HoldsAll AtBegin from.most store added now)
unfolding border_behind
names_all from names records added store now a b n m p =
    between_map a b (λ h g. AllDone h g × (CarriesNames from names records added store now h g × TellsNames (accepted_in store) names h g))
    (HoldsAll AtBegin from.most store added now) (λ h g e. grows_all [] (accepted_in store) from names added store now h g e.1.0.0) p.end

-- and up to the fault of the source for others behind them
filled_all : (from : Origin) (store middle : Store) (some others : List (List ℕ)) (records : List TaggedRecord) (added begun : List Addition) (a b : Option
    Told)
    (result : Result (Unit {0}) CarryFault) → Extends (accepted_in store) some (accepted_in middle)
    → (repo_view middle.repo).keys ≡ (repo_view store.repo).keys
    → Between a b (λ h g. AllDone h g × (CarriesNames from some records added store middle h g × TellsNames (accepted_in store) some h g))
    → IfErr result (λ fault. FillsAll b from middle others fault begun)
    → IfErr result (λ fault. FillsAll a from store (some ++ others) fault (added ++ begun))
filled_all from store middle some others records added begun a b (Ok x) extends same end fills = tt
filled_all from store middle some others records added begun a b (Err fault) extends same end fills =
    filled_then from store middle some others records added begun a b fault extends same end fills

-- more names behind some
pub reports_then : (from : Origin) (some more : List (List ℕ)) (store middle now : Store) (carried between after : Carried) (a b c : Option Told)
    (n m k : ℕ) (x y z : Option (List ℕ)) (result : Result (Unit {0}) CarryFault) → IsSettled store → AcceptsMore middle
    → IfSome a (λ t. StoreFits false store
    t.history)
    → Extends (accepted_in store) some (accepted_in middle) → (repo_view middle.repo).keys ≡ (repo_view store.repo).keys → IsUnspent middle
    → (p : Reports from some (target_state a n store) (target_state b m middle) carried between (drawn_from x y) (Ok tt)) → Follows p.added middle
    → Reports from more (target_state b m middle) (target_state c k now) between after (drawn_from y z) result
    → Reports from (some ++ more) (target_state a n store) (target_state c k now) carried after (drawn_from x z) result
reports_then from some more store middle now carried between after a b c n m k x y z result settled accepts fits extends same unspent p follows q =
    let keys = (repo_view store.repo).keys in
    let accepted = accepted_in store in
    let first = accepted_in middle in
    let added = p.added in
    let others = q.added in
    let all = added ++ others in
    record {
      added = all;
      records = p.records ++ q.records;
      begins = all_then from store middle some more p.records added others a b extends same p.works.end q.begins;
      works = works_then (KeepsReported from some store added) (λ (_ : Unit {0}) h g. EndsNames {T = Unit {0}} from some p.records added store middle tt h g)
          (KeepsReported from more middle others) (EndsNames {T = Unit {0}} from more q.records others middle now) (KeepsReported from (some ++ more) store
          all)
          (EndsNames {T = Unit {0}} from (some ++ more) (p.records ++ q.records) all store now) a b c n m k tt result
          (λ h g i e d f r. reported_then from some more added others store middle h g i settled accepts follows e d f.0.0 f.1 r)
          (λ _ h g i e f. (
            (
              grows_then [] from some more added others store middle now h g i e.0.0
                  (grows_follows added from more others middle now g i follows f.0.0),
              lists_then from keys accepted first some more p.records q.records added others extends e.0.1
                  (subst (λ (k : Keys). ListsNames from k first [] more q.records others) same f.0.1),
            ),
            names_then accepted first some more h g i extends e.1 f.1,
          )) p.works q.works;
      accepts = accepts_both {T = Unit {0}} from some more p.records q.records store middle now x y z result same p.accepts q.accepts;
      counted = counted_then accepted first some more added others carried between after result extends p.counted q.counted;
      last = stops_then {T = Unit {0}} a b keys (repo_view middle.repo).keys added others result p.works.ends same q.last;
      held = held_then {T = Unit {0}} AtBegin from.most store middle now added others a b c result same (λ _. unspent)
          (names_all from some p.records added store middle a b n m p.works)
          (held_at {T = Unit {0}} AtBegin (border_behind AtBegin added) from.most middle now others b c result
          (λ h counts fits. follows_allows added counts middle h fits follows) q.held);
      fills = filled_all from store middle some more p.records added others a b result extends same p.works.end q.fills;
      few = let contents = length-append added others in let names = length-append some more in
          begun_then {T = Unit {0}} {U = Unit {0}} (2 * length added + 2 * length some) (2 * length others + 2 * length more)
          (2 * length all + 2 * length (some ++ more)) store middle now (Ok tt) result (omega (arith, contents, names)) p.few q.few;
    }

-- one archive more of those that were chosen
pub reports_more : (from other : Origin) (names : List (List ℕ)) (place : ℕ) (name d : List ℕ)
    (store middle now : Store) (carried between after : Carried) (a b c : Option Told) (n m k : ℕ) (x y z : Option (List ℕ)) (result : Result (Unit {0})
    CarryFault) → other ≡ from
    → place < length names → name ≡ get_or names place d → IsSettled store → AcceptsMore middle → IfSome a (λ t. StoreFits false store t.history)
    → (repo_view middle.repo).keys ≡ (repo_view store.repo).keys → IsUnspent middle
    → (p : Reports from (take place names) (target_state a n store) (target_state b m middle) carried between (drawn_from x y) (Ok tt))
    → Follows p.added middle
    → Reports other (name ∷ []) (target_state b m middle) (target_state c k now) between after (drawn_from y z) result
    → Reports from (take (place + 1) names) (target_state a n store) (target_state c k now) carried after (drawn_from x z) result
reports_more from other names place name d store middle now carried between after a b c n m k x y z result is lt named settled accepts fits same unspent
    p follows q =
    let some = take place names in
    let more : some ++ name ∷ [] ≡ take (place + 1) names =
    ap (λ (x : List ℕ). some ++ x ∷ []) named ∙ sym (take_more names place d lt) in
    reports_as from from (take (place + 1) names) (some ++ name ∷ []) store now carried after a c n k x z result refl more
    (reports_then from some (name ∷ []) store middle now carried between after a b c n m k x y z result settled accepts fits
    (extends_next from.time from.repo.manifest (accepted_in store) (accepted_in middle) some (record_ids (repo_view store.repo).keys p.records)
    (next_of from.time from.repo.manifest (repo_view store.repo).keys (accepted_in store) some p.records (accepted_in middle) p.accepts.0))
    same unspent p follows
    (subst (λ (f : Origin). Reports f (name ∷ []) (target_state b m middle) (target_state c k now) between after (drawn_from y z) result) is q))

-- those that were told before a fault are a front of all
pub reports_front : (from : Origin) (names : List (List ℕ)) (place : ℕ) (store now : Store) (carried after : Carried) (a b : Option Told) (n m : ℕ)
    (x y : Option (List ℕ)) (fault : CarryFault) → Reports from (take place names) (target_state a n store) (target_state b m now) carried after
    (drawn_from x y) (Err fault)
    → Reports from names (target_state a n store) (target_state b m now) carried after (drawn_from x y) (Err fault)
reports_front from names place store now carried after a b n m x y fault p =
    let some = take place names in
    let rest = drop place names in
    reports_as from from names (some ++ rest) store now carried after a b n m x y (Err fault) refl (take-append-drop place names) (record {
      added = p.added;
      records = p.records;
      begins = all_wider a from store some rest p.added p.begins;
      works = works_front (KeepsReported from some store p.added) (EndsNames {T = Unit {0}} from some p.records p.added store now)
          (KeepsReported from (some ++ rest) store p.added) (EndsNames {T = Unit {0}} from (some ++ rest) p.records p.added store now) a b n m fault
          (λ h g e. reported_wider from some rest store p.added p.added h g (front_all p.added) e) p.works;
      accepts = tt;
      counted = tt;
      last = p.last;
      held = p.held;
      fills = filled_wider a from store some rest fault p.added p.fills;
      few = let size = length-append some rest in
          begun_more {T = Unit {0}} (2 * length p.added + 2 * length some) (2 * length p.added + 2 * length (some ++ rest)) store now (Err fault)
          (omega (arith, size)) p.few;
    })

-- all were told
pub reports_all : (from : Origin) (names : List (List ℕ)) (place : ℕ) (store now : Store) (carried after : Carried) (a b : Option Told) (n m : ℕ)
    (x y : Option (List ℕ)) → length names ≤ place → Reports from (take place names) (target_state a n store) (target_state b m now) carried after
    (drawn_from x y) (Ok tt)
    → Reports from names (target_state a n store) (target_state b m now) carried after (drawn_from x y) (Ok tt)
reports_all from names place store now carried after a b n m x y le p =
    reports_as from from names (take place names) store now carried after a b n m x y (Ok tt) refl (take_all place names le) p
