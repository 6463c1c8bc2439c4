use Rattle.std.proofs.Common.{◌≡◌, ◌<◌, ◌≤◌, List, ℕ, [], ◌∷◌, None, Some, Ok, IfSome, get_or, length, sym, subst, ◌∙◌, ap, arith}
use Rattle.ferry_disk.proofs.DeviceLemmas.{told_then, told_with}
use Rattle.ferry_item.specs.Item.{item_view}
use Rattle.ferry_item.specs.Stream.{front_item, an_item, nothing_yet}
use Rattle.ferry_item.specs.declared.fault.ItemFault.TheVariants as Items
use Rattle.ferry_repo.specs.Fault.{IsOfFiles, item_fault}
use Rattle.ferry_repo.specs.Objects.{HoldsChunk, RefusesChunk}
use Rattle.ferry_repo.specs.Opening.{RepoState, repo_view}
use Rattle.ferry_repo.specs.Walk.{IsToCome, LeadsOn, FitsWalk, walk_view, ReadsOn}
use Rattle.ferry_repo.specs.declared.fault.RepoFault.{RepoFault}
use Rattle.ferry_repo.specs.declared.fault.RepoFault.TheVariants as Fault
use Rattle.ferry_repo.specs.declared.walk.Ending.{Ending}
use Rattle.ferry_repo.proofs.WalkLemmas.{at, leads_then, leads_item, comes_none, comes_cut, comes_item_fault, comes_refused, fits_item}
use Rattle.ferry_repo.proofs.WalkLemmas.{leads_read, fits_read, leads_ended, fits_ended}
use Rattle.ferry_repo.proofs.walk.Walk.step.Goals as goal

pub returns-in-Whole-clause-none : goal.returns-in-Whole-clause-none
returns-in-Whole-clause-none g c e =
    let self = c.loop-self.self in
    let log = c.args.repo.now.log in
    let keys = c.args.repo.now.keys in
    let from = walk_view c.args.self.now in
    told_then (g.S.Shelf.told c.args.shelf.now) (λ f. LeadsOn f log keys from [] (walk_view self)) (λ f. IsToCome f log keys from [] None)
    (λ f leads. leads [] None (subst (λ (x : Ending). IsToCome f log keys (at self.id self.ids self.read self.reader x) [] None) (sym c.in-Whole.is)
    (comes_none f log keys self.id self.ids self.read self.reader))) c.loop-self.invariant.leads

pub returns-in-Cut-clause-refused : goal.returns-in-Cut-clause-refused
returns-in-Cut-clause-refused g c of_files =
    let self = c.loop-self.self in
    let log = c.args.repo.now.log in
    let keys = c.args.repo.now.keys in
    let from = walk_view c.args.self.now in
    let end = Some (Fault.Item self.id Items.Rest) in
    told_then (g.S.Shelf.told c.args.shelf.now) (λ f. LeadsOn f log keys from [] (walk_view self)) (λ f. IsToCome f log keys from [] end)
    (λ f leads. leads [] end (subst (λ (x : Ending). IsToCome f log keys (at self.id self.ids self.read self.reader x) [] end) (sym c.in-Cut.is)
    (comes_cut f log keys self.id self.ids self.read self.reader))) c.loop-self.invariant.leads

pub returns-in-Ok-Some-clause-item : goal.returns-in-Ok-Some-clause-item
returns-in-Ok-Some-clause-item g c =
    let self = c.loop-self.self in
    let log = c.args.repo.now.log in
    let keys = c.args.repo.now.keys in
    let from = walk_view c.args.self.now in
    let rest = c.next.new.self in
    let item = item_view c.in-Ok-Some.item in
    let to = at self.id self.ids self.read rest self.ending in
    let front = subst (λ o. IfSome o (λ i. front_item self.reader ≡ an_item (item_view i) rest)) c.in-Ok-Some.field-0-is c.in-Ok-Some.ensures.item in
    told_then (g.S.Shelf.told c.args.shelf.now) (λ f. LeadsOn f log keys from [] (walk_view self)) (λ f. LeadsOn f log keys from (item ∷ []) to)
    (λ f leads. leads_then f log keys from (walk_view self) to (item ∷ []) leads
    (subst (λ (x : Ending). LeadsOn f log keys (at self.id self.ids self.read self.reader x) (item ∷ []) (at self.id self.ids self.read rest x))
    (sym c.in-Open.is) (leads_item f log keys self.id self.ids self.read self.reader rest item front))) c.loop-self.invariant.leads

pub returns-in-Ok-Some-clause-walk_fits : goal.returns-in-Ok-Some-clause-walk_fits
returns-in-Ok-Some-clause-walk_fits g c =
    let self = c.loop-self.self in
    let log = c.args.repo.now.log in
    let keys = c.args.repo.now.keys in
    let rest = c.next.new.self in
    let item = item_view c.in-Ok-Some.item in
    let front = subst (λ o. IfSome o (λ i. front_item self.reader ≡ an_item (item_view i) rest)) c.in-Ok-Some.field-0-is c.in-Ok-Some.ensures.item in
    told_then (g.S.Shelf.told c.args.shelf.now) (λ f. FitsWalk f log keys (walk_view self))
    (λ f. FitsWalk f log keys (at self.id self.ids self.read rest self.ending))
    (λ f fits. subst (λ (x : Ending). FitsWalk f log keys (at self.id self.ids self.read rest x)) (sym c.in-Open.is)
    (fits_item f log keys self.id self.ids self.read self.reader rest item front
    (subst (λ (x : Ending). FitsWalk f log keys (at self.id self.ids self.read self.reader x)) c.in-Open.is fits))) c.loop-self.invariant.fits

pub returns-in-Err-clause-refused : goal.returns-in-Err-clause-refused
returns-in-Err-clause-refused g c of_files =
    let self = c.loop-self.self in
    let log = c.args.repo.now.log in
    let keys = c.args.repo.now.keys in
    let from = walk_view c.args.self.now in
    let fault = c.in-Err.fault in
    let files_fault : IsOfFiles (item_fault self.id fault) = subst IsOfFiles c.of_item.ensures of_files in
    told_then (g.S.Shelf.told c.args.shelf.now) (λ f. LeadsOn f log keys from [] (walk_view self))
    (λ f. IsToCome f log keys from [] (Some c.of_item.result))
    (λ f leads. leads [] (Some c.of_item.result)
    (subst (λ (r : RepoFault). IsToCome f log keys (walk_view self) [] (Some r)) (sym c.of_item.ensures)
    (subst (λ (x : Ending). IsToCome f log keys (at self.id self.ids self.read self.reader x) [] (Some (item_fault self.id fault))) (sym c.in-Open.is)
    (comes_item_fault f log keys self.id self.ids self.read self.reader fault c.in-Err.ensures.fault files_fault)))) c.loop-self.invariant.leads

pub loop-self-preserved-in-Ok : goal.loop-self-preserved-in-Ok
loop-self-preserved-in-Ok g c =
    let self = c.loop-self.self in
    let log = c.args.repo.now.log in
    let keys = c.args.repo.now.keys in
    let from = walk_view c.args.self.now in
    let ids = self.ids in
    let left = c.next.new.self in
    let nothing = ap Ok c.in-Ok-None.field-0-is in
    let kept : left ≡ self.reader = c.in-Ok-None.ensures.none_kept nothing in
    let front : front_item left ≡ nothing_yet = subst (λ (b : List ℕ). front_item b ≡ nothing_yet) (sym kept) (c.in-Ok-None.ensures.none nothing) in
    let here = at self.id ids self.read left self.ending in
    let told = g.S.Shelf.told in
    let repo = repo_view c.loop-self.repo in
    let after = c.read_on.new.self in
    let more = c.in-Ok.ensures.rest in
    let lt : self.read < length ids = omega (arith, c.if-self-as_slice.true, ap length c.as_slice.ensures.ids) in
    record {
      leads = told_with (told c.args.shelf.now) (told c.loop-self.shelf) (λ f. LeadsOn f log keys from [] (walk_view self))
          (λ f. ReadsOn f repo.log repo.keys here (walk_view after)) (λ f. LeadsOn f log keys from [] (walk_view after))
          c.loop-self.invariant.same
          (λ f leads reads. leads_then f log keys from here (walk_view after) []
          (subst (λ (b : List ℕ). LeadsOn f log keys from [] (at self.id ids self.read b self.ending)) (sym kept) leads)
          (leads_read f log keys self.id ids self.read left reads.content self.ending after.id after.ids after.read after.reader after.ending
          front c.in-Open.is lt
          (subst (λ (r : RepoState). HoldsChunk f r.log r.keys (get_or ids self.read []) reads.content) c.loop-self.invariant.repo reads.chunk)
          more.0 more.1 c.in-Ok.ensures.next reads.ahead more.2))
          c.loop-self.invariant.leads c.in-Ok.ensures.read;
      fits = told_with (told c.args.shelf.now) (told c.loop-self.shelf) (λ f. FitsWalk f log keys (walk_view self))
          (λ f. ReadsOn f repo.log repo.keys here (walk_view after)) (λ f. FitsWalk f log keys (walk_view after))
          c.loop-self.invariant.same
          (λ f fits reads. fits_read f log keys self.id ids self.read left reads.content self.ending after.id after.ids after.read after.reader after.ending
          c.in-Open.is lt
          (subst (λ (r : RepoState). HoldsChunk f r.log r.keys (get_or ids self.read []) reads.content) c.loop-self.invariant.repo reads.chunk)
          more.0 more.1 c.in-Ok.ensures.next reads.ahead more.2
          (subst (λ (b : List ℕ). FitsWalk f log keys (at self.id ids self.read b self.ending)) (sym kept) fits))
          c.loop-self.invariant.fits c.in-Ok.ensures.read;
      archive = (more.0 ∙ c.loop-self.invariant.archive.0, more.1 ∙ c.loop-self.invariant.archive.1);
      repo_fits = c.in-Ok.ensures.fits;
      repo = c.in-Ok.ensures.kept ∙ c.loop-self.invariant.repo;
      same = c.in-Ok.ensures.same ∙ c.loop-self.invariant.same;
      faults = c.in-Ok.ensures.cause ∙ c.loop-self.invariant.faults;
    }

pub returns-in-Err-read_on-clause-refused : goal.returns-in-Err-read_on-clause-refused
returns-in-Err-read_on-clause-refused g c of_files =
    let self = c.loop-self.self in
    let log = c.args.repo.now.log in
    let keys = c.args.repo.now.keys in
    let from = walk_view c.args.self.now in
    let ids = self.ids in
    let left = c.next.new.self in
    let nothing = ap Ok c.in-Ok-None.field-0-is in
    let kept : left ≡ self.reader = c.in-Ok-None.ensures.none_kept nothing in
    let front : front_item self.reader ≡ nothing_yet = c.in-Ok-None.ensures.none nothing in
    let told = g.S.Shelf.told in
    let repo = repo_view c.loop-self.repo in
    let fault = c.in-Err-read_on.fault in
    let lt : self.read < length ids = omega (arith, c.if-self-as_slice.true, ap length c.as_slice.ensures.ids) in
    told_with (told c.args.shelf.now) (told c.loop-self.shelf) (λ f. LeadsOn f log keys from [] (walk_view self))
    (λ f. RefusesChunk f repo.log repo.keys (get_or ids self.read []) fault) (λ f. IsToCome f log keys from [] (Some fault))
    c.loop-self.invariant.same
    (λ f leads refuses. leads [] (Some fault)
    (subst (λ (x : Ending). IsToCome f log keys (at self.id ids self.read self.reader x) [] (Some fault)) (sym c.in-Open.is)
    (comes_refused f log keys self.id ids self.read self.reader fault front lt of_files
    (subst (λ (r : RepoState). RefusesChunk f r.log r.keys (get_or ids self.read []) fault) c.loop-self.invariant.repo refuses))))
    c.loop-self.invariant.leads c.in-Err-read_on.ensures.refused

pub loop-self-preserved : goal.loop-self-preserved
loop-self-preserved g c =
    let self = c.loop-self.self in
    let log = c.args.repo.now.log in
    let keys = c.args.repo.now.keys in
    let from = walk_view c.args.self.now in
    let ids = self.ids in
    let left = c.next.new.self in
    let nothing = ap Ok c.in-Ok-None.field-0-is in
    let kept : left ≡ self.reader = c.in-Ok-None.ensures.none_kept nothing in
    let front : front_item left ≡ nothing_yet = subst (λ (b : List ℕ). front_item b ≡ nothing_yet) (sym kept) (c.in-Ok-None.ensures.none nothing) in
    let here = at self.id ids self.read left self.ending in
    let told = g.S.Shelf.told in
    let after = c.end.new.self in
    let more = c.end.ensures.rest in
    let le : length ids ≤ self.read = omega (arith, c.if-self-as_slice.false, ap length c.as_slice.ensures.ids) in
    record {
      leads = told_then (told c.args.shelf.now) (λ f. LeadsOn f log keys from [] (walk_view self)) (λ f. LeadsOn f log keys from [] (walk_view after))
          (λ f leads. leads_then f log keys from here (walk_view after) []
          (subst (λ (b : List ℕ). LeadsOn f log keys from [] (at self.id ids self.read b self.ending)) (sym kept) leads)
          (leads_ended f log keys self.id ids self.read left self.ending after.id after.ids after.read after.reader after.ending
          front c.in-Open.is le c.end.ensures.ends more.0 more.1 more.2))
          c.loop-self.invariant.leads;
      fits = told_then (told c.args.shelf.now) (λ f. FitsWalk f log keys (walk_view self)) (λ f. FitsWalk f log keys (walk_view after))
          (λ f fits. fits_ended f log keys self.id ids self.read left self.ending after.id after.ids after.read after.reader after.ending
          front c.in-Open.is le c.end.ensures.ends more.0 more.1 more.2
          (subst (λ (b : List ℕ). FitsWalk f log keys (at self.id ids self.read b self.ending)) (sym kept) fits))
          c.loop-self.invariant.fits;
      archive = (more.0 ∙ c.loop-self.invariant.archive.0, more.1 ∙ c.loop-self.invariant.archive.1);
      repo_fits = c.loop-self.invariant.repo_fits;
      repo = c.loop-self.invariant.repo;
      same = c.loop-self.invariant.same;
      faults = c.loop-self.invariant.faults;
    }
