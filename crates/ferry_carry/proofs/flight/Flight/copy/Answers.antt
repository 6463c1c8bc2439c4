use Rattle.std.proofs.Common.{rules, ◌≡◌, inr, [], ◌∷◌, ◌++◌, false, true, Some, None, Bool, List, Result, Ok, Err, refl, sym, ◌∙◌, subst, IfErr, ℕ}
use Rattle.std.proofs.Common.{◌+◌, ◌*◌, length, arith}
use Rattle.ferry_compare.specs.Compare.{seen}
use Rattle.ferry_carry.proofs.CauseLemmas.{end_refused, lacks_by, step_refused}
use Rattle.ferry_carry.proofs.AcceptingLemmas.{next_rest}
use Rattle.ferry_carry.proofs.FlightLemmas.{rest_accepts}
use Rattle.ferry_carry.proofs.BegunLemmas.{begins_new, done_before, fills_new, so_far_as, so_far_later}
use Rattle.ferry_carry.proofs.FlyLemmas.{end_apart, flies_as, flies_err, flies_fault}
use Rattle.ferry_carry.proofs.UnnamedLemmas.{stands_within, turn_ended, turned_err}
use Rattle.ferry_carry.proofs.BegunLemmas.{stepped_as}
use Rattle.ferry_carry.proofs.GrowsLemmas.{most_from, most_then}
use Rattle.ferry_carry.proofs.HeldLemmas.{held_within}
use Rattle.ferry_carry.proofs.LeftLemmas.{left_then, left_usable}
use Rattle.ferry_carry.proofs.NamingManifestLemmas.{pieces_limit, rest_limit}
use Rattle.ferry_carry.proofs.TagLemmas.{TagsOr, match_err, tags_as, tags_none}
use Rattle.ferry_carry.proofs.WorkLemmas.{carried_from}
use Rattle.ferry_piece.proofs.GatherLemmas.{rest_here}
use Rattle.ferry_piece.proofs.WorkLemmas.{err_is}
use Rattle.ferry_carry.proofs.flight.Flight.copy.Goals as goal
use Rattle.ferry_piece.specs.Adding.{AddsOn}
use Rattle.ferry_carry.specs.Carrying.{origin}
use Rattle.ferry_carry.specs.Flight.{IsFlown, WaitsMatched, WorkFits, flown_from}
use Rattle.ferry_piece.specs.Gather.{KeepsStanding}
use Rattle.ferry_carry.specs.Progress.{CopiesOn, IsCopiedSoFar}
use Rattle.ferry_piece.specs.Puts.{Addition, AtBegin, border_behind}
use Rattle.ferry_carry.specs.Refusals.{IsLimited, Leaves, RefusesName, RefusesStep}
use Rattle.ferry_piece.specs.declared.fault.CarryFault.{CarryFault}
use Rattle.ferry_carry.specs.declared.flight.Turn.{Turn}
use Rattle.ferry_carry.specs.declared.flight.Turn.TheVariants.{More, Named}
use Rattle.ferry_carry.specs.declared.options.Carried.{Carried}
use Rattle.ferry_manifest.specs.Manifest.Text.{ManifestText}
use Rattle.ferry_repo.specs.Archives.{archive_named}
use Rattle.ferry_repo.specs.Opening.{RepoState, repo_view}
use Rattle.ferry_store.specs.Commit.{accepted_in}
use Rattle.ferry_piece.proofs.FewLemmas.{begun_as, begun_same}
use Rattle.ferry_carry.proofs.TurnLemmas.{stops_turn}

pub returns-in-Err-clause-works : goal.returns-in-Err-clause-works
returns-in-Err-clause-works g c =
    λ added so.
    let a = g.D.Shelf.told c.args.depot.now in
    let b = g.D.Shelf.told c.step.new.depot in
    let n = g.D.Shelf.faults c.args.depot.now in
    let m = g.D.Shelf.faults c.step.new.depot in
    let store = c.args.store.now in
    let now = c.step.new.store in
    let fault = c.in-Err.fault in
    let told = g.S.Shelf.told c.args.shelf.now in
    let source = repo_view c.args.source.now in
    let flight = c.args.self.now in
    let from = flown_from told source flight in
    let name = flight.named.name in
    let copy = c.args.copy in
    let at = border_behind AtBegin added in
    let stepped = c.in-Err.ensures.copied from.time flight.named added
    (so_far_as told source from.block from.most from.time flight.named a store copy added so) in
    let works = stepped_as told source from.block from.most copy.block copy.contents.checkpoint from.time flight.named a b store now c.step.new.self added
    stepped.0
    n m (Err fault) (sym so.0.block) (sym so.0.most) stepped.1 in (
      stepped.0,
      (
        [],
        (
          record {
            flies = flies_fault {T = Bool} added from name store now stepped.0 a b n m fault c.requires.both.target.accepts works.0;
            begins = begins_new a from (repo_view store.repo).keys (accepted_in store) name (added ++ stepped.0) c.requires.copy.1.unnamed
                (works.1.0 c.requires.flight.named);
            stands = λ _. stands_within at from.most store stepped.0 a b works.0.works.each;
            last = works.0.last;
            held = held_within {T = Turn} at from.most store now stepped.0 a b (Err fault) works.0.held;
            fills = fills_new a from (repo_view store.repo).keys (accepted_in store) name (added ++ stepped.0) fault c.requires.copy.1.unnamed
                (works.1.1.0 c.requires.flight.named);
            lists = tt;
            few = begun_same {T = Bool} {U = Turn} (2 * length stepped.0) (2 * length stepped.0 + 2) store now fault (omega arith) works.0.few;
          },
          inr (tags_none (repo_view store.repo).keys stepped.0 _ _ works.1.1.1 refl),
        ),
      ),
    )

pub returns-in-Ok-true-clause-works : goal.returns-in-Ok-true-clause-works
returns-in-Ok-true-clause-works g c =
    λ added so.
    let a = g.D.Shelf.told c.args.depot.now in
    let b = g.D.Shelf.told c.step.new.depot in
    let n = g.D.Shelf.faults c.args.depot.now in
    let m = g.D.Shelf.faults c.step.new.depot in
    let store = c.args.store.now in
    let now = c.step.new.store in
    let told = g.S.Shelf.told c.args.shelf.now in
    let later = g.S.Shelf.told c.step.new.shelf in
    let source = repo_view c.args.source.now in
    let after = repo_view c.step.new.source in
    let flight = c.args.self.now in
    let from = flown_from told source flight in
    let named = flight.named in
    let name = named.name in
    let copy = c.args.copy in
    let ensures = c.in-Ok-true.ensures in
    let more = c.in-Ok-true.field-0 in
    let taken : more ≡ true = search rules in
    let at = border_behind AtBegin added in
    let stepped = ensures.copied from.time named added (so_far_as told source from.block from.most from.time named a store copy added so) in
    let works = stepped_as told source from.block from.most copy.block copy.contents.checkpoint from.time named a b store now c.step.new.self added
    stepped.0 n
    m
    (Ok more) (sym so.0.block) (sym so.0.most) stepped.1 in
    let so_far : IsCopiedSoFar from named b now c.step.new.self (added ++ stepped.0) =
    subst (CopiesOn from named b now c.step.new.self added stepped.0) taken works.1.1.1 in (
      stepped.0,
      (
        [],
        (
          record {
            flies = flies_as {T = Bool} added from name [] stepped.0 store now a b n m more More refl
                (carried_from {T = Bool} {U = Bool} added from (name ∷ []) store now stepped.0 a b n m more more c.requires.both.target.accepts
                ensures.both.target.rest works.0);
            begins = begins_new a from (repo_view store.repo).keys (accepted_in store) name (added ++ stepped.0) c.requires.copy.1.unnamed
                (works.1.0 c.requires.flight.named);
            stands = stands_within at from.most store stepped.0 a b works.0.works.each;
            last = tt;
            held = tt;
            fills = tt;
            lists = (
              record {
                stands = record {
                  options = c.requires.flight.options;
                  named = subst (λ (r : RepoState). archive_named name r.manifest.archives ≡ Some named) (sym ensures.both.source.kept)
                      c.requires.flight.named;
                  uncounted = c.requires.flight.uncounted;
                };
                added = added ++ stepped.0;
                work = subst (WorkFits (seen later after) b now (seen b (repo_view now.repo)) named flight.options (added ++ stepped.0))
                    (sym c.renew.ensures) (record {
                      fits = record { ready = ensures.copy.ready; walk_fits = ensures.copy.walk_fits };
                      unnamed = subst (λ (m : ManifestText). archive_named name m.archives ≡ None) (sym ensures.both.target.rest.accepted)
                          c.requires.copy.1.unnamed;
                      copied = so_far_later told later source after from.block from.most from.time named b now c.step.new.self (added ++ stepped.0)
                          ensures.both.source.same ensures.both.source.kept so_far;
                    });
                matched = subst (WaitsMatched later after b (repo_view now.repo) flight.matches) (sym c.renew.ensures) tt;
              },
              refl,
            );
            few = begun_as {T = Bool} {U = Turn} (2 * length stepped.0) (2 * length stepped.0 + 0) store now more More (omega arith) works.0.few;
          },
          λ is. absurd (let no : ⊥ = cc in no),
        ),
      ),
    )

pub returns-in_err-self-in-Ok-false-clause-works : goal.returns-in_err-self-in-Ok-false-clause-works
returns-in_err-self-in-Ok-false-clause-works g c =
    λ added so.
    let a = g.D.Shelf.told c.args.depot.now in
    let b = g.D.Shelf.told c.step.new.depot in
    let d = g.D.Shelf.told c.end_copy-put.new.depot in
    let n = g.D.Shelf.faults c.args.depot.now in
    let m = g.D.Shelf.faults c.step.new.depot in
    let k = g.D.Shelf.faults c.end_copy-put.new.depot in
    let store = c.args.store.now in
    let middle = c.step.new.store in
    let now = c.end_copy-put.new.store in
    let fault = c.in_err-self-in-Ok-false.field-0.0 in
    let told = g.S.Shelf.told c.args.shelf.now in
    let source = repo_view c.args.source.now in
    let flight = c.args.self.now in
    let from = flown_from told source flight in
    let named = flight.named in
    let name = named.name in
    let copy = c.args.copy in
    let more = c.in-Ok-false.field-0 in
    let not_more : more ≡ false = search rules in
    let rest = c.in-Ok-false.ensures.both.target.rest in
    let stepped = c.in-Ok-false.ensures.copied from.time named added (so_far_as told source from.block from.most from.time named a store copy added so) in
    let works = stepped_as told source from.block from.most copy.block copy.contents.checkpoint from.time named a b store middle c.step.new.self added
    stepped.0 n m
    (Ok more) (sym so.0.block) (sym so.0.most) stepped.1 in
    let ended : CopiesOn from named b middle c.step.new.self added stepped.0 false =
    subst (CopiesOn from named b middle c.step.new.self added stepped.0) not_more works.1.1.1 in
    let first : AddsOn {T = Bool} from.most store [] middle a b n m (Ok more) =
    subst (λ (l : List Addition). AddsOn {T = Bool} from.most store l middle a b n m (Ok more)) ended.0 works.0 in
    let kept = c.step.ensures.both.source.kept in
    let flown : IsFlown from (repo_view c.step.new.source) flight.options.timestamp named =
    record {
      repo = sym kept;
      time = refl;
      named_is = subst (λ (r : RepoState). archive_named named.name r.manifest.archives ≡ Some named) (sym kept) c.requires.flight.named;
    } in
    let ends = c.in_err-self-in-Ok-false.ensures.works from added (ended.1 c.requires.flight.named) flown in
    let does = ends.1.1.0 in (
      ends.0,
      (
        [],
        (
          turned_err _ _ from name added ends.0 [] store now _ _ a d n k c.from_residual.result fault c.from_residual.ensures.1
              (turn_ended from name added ends.0 [] store middle now _ _ _ _ a b d n m k more (Err fault) c.requires.both.target.accepts rest
              c.requires.copy.1.unnamed first
              (flies_err {T = Carried} added from name (name ∷ []) ends.0 middle now now b d m k fault does.carries) does.begins does.stands does.last
              does.held
              (end_apart from b (repo_view middle.repo).keys name fault
              (c.in_err-self-in-Ok-false.ensures.refused from added (ended.1 c.requires.flight.named))) tt
              (begun_same {T = Carried} {U = Turn} (2 * length ends.0 + 2) (2 * length ends.0 + 2) middle now fault (omega arith) does.few)),
          match_err {T = Turn} _ (TagsOr (repo_view store.repo).keys ends.0 (g.E.Entropy.drawn c.args.entropy.now)
              (g.E.Entropy.drawn c.end_copy-put.new.entropy)) c.from_residual.result fault c.from_residual.ensures.1
              (tags_as (repo_view store.repo).keys (repo_view middle.repo).keys ends.0 _ _ fault rest.keys ends.1.1.1),
        ),
      ),
    )

pub returns-in_ok-self-in-Ok-false-clause-works : goal.returns-in_ok-self-in-Ok-false-clause-works
returns-in_ok-self-in-Ok-false-clause-works g c =
    λ added so.
    let a = g.D.Shelf.told c.args.depot.now in
    let b = g.D.Shelf.told c.step.new.depot in
    let d = g.D.Shelf.told c.end_copy-put.new.depot in
    let n = g.D.Shelf.faults c.args.depot.now in
    let m = g.D.Shelf.faults c.step.new.depot in
    let k = g.D.Shelf.faults c.end_copy-put.new.depot in
    let store = c.args.store.now in
    let middle = c.step.new.store in
    let now = c.end_copy-put.new.store in
    let told = g.S.Shelf.told c.args.shelf.now in
    let source = repo_view c.args.source.now in
    let flight = c.args.self.now in
    let from = flown_from told source flight in
    let named = flight.named in
    let name = named.name in
    let copy = c.args.copy in
    let more = c.in-Ok-false.field-0 in
    let not_more : more ≡ false = search rules in
    let rest = c.in-Ok-false.ensures.both.target.rest in
    let stepped = c.in-Ok-false.ensures.copied from.time named added (so_far_as told source from.block from.most from.time named a store copy added so) in
    let works = stepped_as told source from.block from.most copy.block copy.contents.checkpoint from.time named a b store middle c.step.new.self added
    stepped.0 n m
    (Ok more) (sym so.0.block) (sym so.0.most) stepped.1 in
    let ended : CopiesOn from named b middle c.step.new.self added stepped.0 false =
    subst (CopiesOn from named b middle c.step.new.self added stepped.0) not_more works.1.1.1 in
    let first : AddsOn {T = Bool} from.most store [] middle a b n m (Ok more) =
    subst (λ (l : List Addition). AddsOn {T = Bool} from.most store l middle a b n m (Ok more)) ended.0 works.0 in
    let kept = c.step.ensures.both.source.kept in
    let flown : IsFlown from (repo_view c.step.new.source) flight.options.timestamp named =
    record {
      repo = sym kept;
      time = refl;
      named_is = subst (λ (r : RepoState). archive_named named.name r.manifest.archives ≡ Some named) (sym kept) c.requires.flight.named;
    } in
    let ends = c.in_ok-self-in-Ok-false.ensures.works from added (ended.1 c.requires.flight.named) flown in
    let records = ends.1.0 in
    let does = ends.1.1.0 in (
      ends.0,
      (
        records,
        (
          turn_ended from name added ends.0 records store middle now _ _ _ _ a b d n m k more (Ok Named) c.requires.both.target.accepts rest
              c.requires.copy.1.unnamed first
              (flies_as {T = Carried} added from name (name ∷ []) ends.0 middle now b d m k c.in_ok-self-in-Ok-false.field-0 Named refl does.carries)
              does.begins tt tt tt tt (
                refl,
                (
                  done_before from from (repo_view store.repo).keys (repo_view middle.repo).keys name records (added ++ ends.0) (added ++ ends.0) true
                      (KeepsStanding from.most store []) a b first.works.each refl rest.keys refl does.lists.0,
                  does.lists.1,
                ),
              )
              (begun_as {T = Carried} {U = Turn} (2 * length ends.0 + 2) (2 * length ends.0 + 2) middle now c.in_ok-self-in-Ok-false.field-0 Named
              (omega arith) does.few),
          λ _. next_rest flight.options.timestamp source (repo_view c.step.new.source) store middle now named records
              (g.E.Entropy.drawn c.args.entropy.now) (g.E.Entropy.drawn c.end_copy-put.new.entropy) rest kept ends.1.1.1,
        ),
      ),
    )

pub returns-in-Err-clause-refused : goal.returns-in-Err-clause-refused
returns-in-Err-clause-refused g c =
    record {
      refused =
          let a = g.D.Shelf.told c.args.depot.now in
          let b = g.D.Shelf.told c.step.new.depot in
          let store = c.args.store.now in
          let now = c.step.new.store in
          let fault = c.in-Err.fault in
          let told = g.S.Shelf.told c.args.shelf.now in
          let source = repo_view c.args.source.now in
          let flight = c.args.self.now in
          let block = flight.options.block in
          let most = flight.options.checkpoint in
          let time = flight.options.timestamp in
          let named = flight.named in
          let added = c.requires.copy.0 in
          let so = c.requires.copy.1.copied in
          let refused = c.in-Err.ensures.refused time named added c.requires.flight.named (so_far_as told source block most time named a store c.args.copy
          added so)
          in
          let lacks = lacks_by (repo_view store.repo).manifest (accepted_in store) named.name c.requires.both.target.accepts c.requires.copy.1.unnamed in
          let left = left_then most c.args.copy.contents.checkpoint store store b now fault (sym so.0.most) (rest_here store)
          c.in-Err.ensures.both.target.left in
          step_refused (origin told source block most time) a b store now named.name fault lacks c.in-Err.ensures.both.target.stops
          (λ other. left_usable most store b now (left other) c.requires.both.target.packable c.requires.both.target.accepts)
          (subst (λ (l : ℕ). RefusesStep (origin told source block l time) a named.name fault) (sym so.0.most)
          (subst (λ (d : ℕ). RefusesStep (origin told source d c.args.copy.contents.checkpoint time) a named.name fault) (sym so.0.block) refused));
      limit =
          let b = g.D.Shelf.told c.step.new.depot in
          let store = c.args.store.now in
          let flight = c.args.self.now in
          let given = flight.options.timestamp in
          let source = repo_view c.args.source.now in
          pieces_limit b (repo_view store.repo).keys given source store flight.named c.in-Err.fault c.in-Err.ensures.both.target.stops;
      left =
          let store = c.args.store.now in
          left_then c.args.self.now.options.checkpoint c.args.copy.contents.checkpoint store store (g.D.Shelf.told c.step.new.depot) c.step.new.store
          c.in-Err.fault
          (sym c.requires.copy.1.copied.0.most) (rest_here store) c.in-Err.ensures.both.target.left;
    }

pub returns-in-Ok-true-clause-turn : goal.returns-in-Ok-true-clause-turn
returns-in-Ok-true-clause-turn g c = record {
  source = search rules;
  target =
      record {
        pending = search rules;
        unspent = search rules;
        fits = search rules;
        packable = search rules;
        accepts =
            rest_accepts c.args.store.now c.step.new.store c.in-Ok-true.ensures.both.target.rest c.requires.both.target.accepts;
        committed = search rules;
        most_kept = search rules;
        settled = search rules;
      };
  turn = search rules;
}

pub returns-in_err-self-in-Ok-false-clause-refused : goal.returns-in_err-self-in-Ok-false-clause-refused
returns-in_err-self-in-Ok-false-clause-refused g c =
    stops_turn {T = Turn} _ _ _ _ _ _ _ c.from_residual.result
    (let a = g.D.Shelf.told c.args.depot.now in
    let b = g.D.Shelf.told c.step.new.depot in
    let d = g.D.Shelf.told c.end_copy-put.new.depot in
    let n = g.D.Shelf.faults c.args.depot.now in
    let m = g.D.Shelf.faults c.step.new.depot in
    let store = c.args.store.now in
    let middle = c.step.new.store in
    let now = c.end_copy-put.new.store in
    let fault = c.in_err-self-in-Ok-false.field-0.0 in
    let told = g.S.Shelf.told c.args.shelf.now in
    let source = repo_view c.args.source.now in
    let from = flown_from told source c.args.self.now in
    let named = c.args.self.now.named in
    let copy = c.args.copy in
    let more = c.in-Ok-false.field-0 in
    let not_more : more ≡ false = search rules in
    let added = c.requires.copy.0 in
    let so = c.requires.copy.1.copied in
    let stepped = c.in-Ok-false.ensures.copied from.time named added (so_far_as told source from.block from.most from.time named a store copy added so) in
    let works = stepped_as told source from.block from.most copy.block copy.contents.checkpoint from.time named a b store middle c.step.new.self added
    stepped.0 n m
    (Ok more) (sym so.0.block) (sym so.0.most) stepped.1 in
    let ended : CopiesOn from named b middle c.step.new.self added stepped.0 false =
    subst (CopiesOn from named b middle c.step.new.self added stepped.0) not_more works.1.1.1 in
    let lacks = lacks_by (repo_view store.repo).manifest (accepted_in store) named.name c.requires.both.target.accepts c.requires.copy.1.unnamed in
    let left = left_then from.most c.step.new.self.contents.checkpoint store middle d now fault (c.in-Ok-false.ensures.copy.checkpoint ∙ sym so.0.most)
    c.in-Ok-false.ensures.both.target.rest c.in_err-self-in-Ok-false.ensures.refusal.left in
    err_is c.from_residual.result fault (λ (r : Result Turn CarryFault). IfErr r (RefusesName from a store d now named.name))
    c.from_residual.ensures.1
    (end_refused from a b d (KeepsStanding from.most store stepped.0) store middle now named.name fault works.0.works.each
    c.in-Ok-false.ensures.both.target.rest.keys lacks
    c.in_err-self-in-Ok-false.ensures.refusal.stops (λ other. left_usable from.most store d now (left other) c.requires.both.target.packable
    c.requires.both.target.accepts)
    (c.in_err-self-in-Ok-false.ensures.refused from added (ended.1 c.requires.flight.named))))
    (let d = g.D.Shelf.told c.end_copy-put.new.depot in
    let store = c.args.store.now in
    let flight = c.args.self.now in
    let given = flight.options.timestamp in
    let source = repo_view c.args.source.now in
    let fault = c.in_err-self-in-Ok-false.field-0.0 in
    err_is c.from_residual.result fault (λ (r : Result Turn CarryFault). IfErr r (IsLimited d given source store flight.named))
    c.from_residual.ensures.1
    (rest_limit d given source (repo_view c.step.new.source) store c.step.new.store flight.named fault c.in-Ok-false.ensures.both.target.rest
    c.step.ensures.both.source.kept
    c.in_err-self-in-Ok-false.ensures.refusal.limit))
    (let store = c.args.store.now in
    let middle = c.step.new.store in
    let now = c.end_copy-put.new.store in
    let d = g.D.Shelf.told c.end_copy-put.new.depot in
    let most = c.args.self.now.options.checkpoint in
    let fault = c.in_err-self-in-Ok-false.field-0.0 in
    err_is c.from_residual.result fault (λ (r : Result Turn CarryFault). IfErr r (Leaves most store d now)) c.from_residual.ensures.1
    (left_then most c.step.new.self.contents.checkpoint store middle d now fault (c.in-Ok-false.ensures.copy.checkpoint ∙ sym
    c.requires.copy.1.copied.0.most)
    c.in-Ok-false.ensures.both.target.rest c.in_err-self-in-Ok-false.ensures.refusal.left))

pub returns-in_ok-self-in-Ok-false-clause-turn : goal.returns-in_ok-self-in-Ok-false-clause-turn
returns-in_ok-self-in-Ok-false-clause-turn g c = record {
  source = search rules;
  target =
      record {
        pending = search rules;
        unspent = search rules;
        fits = search rules;
        packable = search rules;
        accepts = search rules;
        committed = search rules;
        most_kept =
            let store = c.args.store.now in
            let middle = c.step.new.store in
            most_then store middle c.end_copy-put.new.store (most_from store middle c.in-Ok-false.ensures.both.target.rest)
            c.in_ok-self-in-Ok-false.ensures.target.most;
        settled = search rules;
      };
  turn = search rules;
}
