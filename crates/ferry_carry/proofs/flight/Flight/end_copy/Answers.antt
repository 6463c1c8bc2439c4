use Rattle.std.proofs.Common.{◌≡◌, inl, ℕ, List, [], ◌∷◌, ◌++◌, Result, Ok, Err, IfErr, sym, ◌∙◌, subst, ap, ◌+◌, ◌*◌, length, arith, rules}
use Rattle.std.proofs.lemmas.List.{append-nil}
use Rattle.ferry_piece.proofs.AddingLemmas.{stops_unbroken}
use Rattle.ferry_carry.proofs.AcceptingLemmas.{record_named}
use Rattle.ferry_carry.proofs.GrowsLemmas.{most_from, most_then}
use Rattle.ferry_carry.proofs.UnnamedLemmas.{added_all}
use Rattle.ferry_carry.proofs.HeldLemmas.{held_then, held_within}
use Rattle.ferry_carry.proofs.LeftLemmas.{left_then, target_leaves}
use Rattle.ferry_piece.proofs.FaultLemmas.{stops_of_pieces}
use Rattle.ferry_carry.proofs.NamingLemmas.{begins_done, behind_record, counts_done, lists_done, record_ends, tagged_as, unnamed_rest}
use Rattle.ferry_carry.proofs.NamingManifestLemmas.{pieces_limit, record_limit}
use Rattle.ferry_carry.proofs.NextLemmas.{behind_named}
use Rattle.ferry_piece.proofs.PieceLemmas.{pieces_at}
use Rattle.ferry_carry.proofs.ProgressEndLemmas.{readies}
use Rattle.ferry_carry.proofs.TagLemmas.{TagsOr, match_err, tags_last}
use Rattle.ferry_piece.proofs.PutsLemmas.{front_all}
use Rattle.ferry_carry.proofs.WorkLemmas.{carried_as, carried_err, carried_from, carried_from_err, carried_then}
use Rattle.ferry_piece.proofs.WorkLemmas.{err_is}
use Rattle.ferry_carry.proofs.flight.Flight.end_copy.Goals as goal
use Rattle.ferry_carry.specs.Flight.{Carries, EndsCopy, archive_adds}
use Rattle.ferry_piece.specs.Adding.{HoldsRefused}
use Rattle.ferry_carry.specs.Naming.{copied_in}
use Rattle.ferry_piece.specs.Puts.{Addition, AtBegin, AtEnd, Border, Within, border_behind}
use Rattle.ferry_piece.specs.declared.fault.CarryFault.{CarryFault}
use Rattle.ferry_piece.specs.declared.piece.PieceWriter.{PieceWriter}
use Rattle.ferry_carry.specs.declared.options.Carried.{Carried}
use Rattle.ferry_piece.proofs.GatherLemmas.{rest_here}
use Rattle.ferry_carry.proofs.CauseLemmas.{record_refused}
use Rattle.ferry_piece.specs.Gather.{KeepsStanding, KeepsStandingAt, chunks_of}
use Rattle.ferry_carry.specs.Refusals.{IsLimited, Leaves, RefusesEnd}
use Rattle.ferry_piece.specs.Stops.{StopsTarget}
use Rattle.ferry_disk.specs.Moments.{Between}
use Rattle.ferry_mac.specs.declared.keys.Keys.{Keys}
use Rattle.ferry_manifest.specs.Record.Text.{archive_view}
use Rattle.ferry_rechunk.specs.Cut.{cut}
use Rattle.ferry_repo.specs.Opening.{repo_view}
use Rattle.ferry_carry.proofs.StandLemmas.{stands_behind_at}
use Rattle.ferry_piece.proofs.FewLemmas.{begun_as, begun_same, begun_then}
use Rattle.ferry_carry.proofs.TurnLemmas.{stops_ending}
use Rattle.ferry_carry.specs.States.{target_state}

pub returns-in_err-id-clause-works : goal.returns-in_err-id-clause-works
returns-in_err-id-clause-works g c =
    λ from added all flown.
    let store = c.args.store.now in
    let now = c.end_stream.new.store in
    let copy = c.args.copy.now in
    let named = c.args.self.now.named in
    let chosen = named.name ∷ [] in
    let a = g.D.Shelf.told c.args.depot.now in
    let b = g.D.Shelf.told c.end_stream.new.depot in
    let n = g.D.Shelf.faults c.args.depot.now in
    let m = g.D.Shelf.faults c.end_stream.new.depot in
    let fault = c.in_err-id.field-0.0 in
    let ended = c.in_err-id.ensures.ended in
    let more = ended.0 ++ ended.1.0 in
    let works = pieces_at {T = List ℕ} from.most copy.stream.checkpoint store now more a b n m (Err fault) (c.requires.ready.same ∙ sym all.0.most)
    ended.1.1.0 in (
      more,
      (
        [],
        (
          err_is c.from_residual.result fault (λ (r : Result Carried CarryFault). EndsCopy from (archive_adds named.name added more []) (target_state a n
              store) (target_state b m now) r)
              c.from_residual.ensures.1 (record {
                carries = carried_from_err {T = List ℕ} {U = Carried} added from chosen chosen store now now more more a b n m fault c.requires.target.accepts
                    (front_all more) works;
                begins = begins_done from named a store copy added ended.0 ended.1.0 c.requires.ready ended.1.1.1.0 ended.1.1.1.1.0 all;
                stands = λ _. works.works.each;
                last = works.last;
                held = held_within {T = Carried} (border_behind AtBegin added) from.most store now more a b (Err fault) works.held;
                lists = tt;
                few = begun_same {T = List ℕ} {U = Carried} (2 * length more) (2 * length more + 2) store now fault (omega arith) works.few;
              }),
          match_err {T = Carried} _ (TagsOr (repo_view store.repo).keys more (g.E.Entropy.drawn c.args.entropy.now)
              (g.E.Entropy.drawn c.end_stream.new.entropy)) c.from_residual.result fault c.from_residual.ensures.1
              (tags_last (repo_view store.repo).keys (cut copy.stream.cutter.block copy.stream.cutter.piece) ended.0 ended.1.0 _ _ fault ended.1.1.1.0
              ended.1.1.1.1.1.0),
        ),
      ),
    )

pub name_record-requires-clause-unnamed : goal.name_record-requires-clause-unnamed
name_record-requires-clause-unnamed g c =
    unnamed_rest c.args.store.now c.end_stream.new.store c.args.self.now.named.name c.in_ok-id.ensures.target.rest c.requires.unnamed

pub returns-in_err-name_record-clause-works : goal.returns-in_err-name_record-clause-works
returns-in_err-name_record-clause-works g c =
    λ from added all flown.
    let store = c.args.store.now in
    let middle = c.end_stream.new.store in
    let now = c.name_record.new.store in
    let copy = c.args.copy.now in
    let named = c.args.self.now.named in
    let chosen = named.name ∷ [] in
    let a = g.D.Shelf.told c.args.depot.now in
    let b = g.D.Shelf.told c.end_stream.new.depot in
    let z = g.D.Shelf.told c.name_record.new.depot in
    let n = g.D.Shelf.faults c.args.depot.now in
    let m = g.D.Shelf.faults c.end_stream.new.depot in
    let k = g.D.Shelf.faults c.name_record.new.depot in
    let fault = c.in_err-name_record.field-0.0 in
    let id = c.in_ok-id.id in
    let ended = c.in_ok-id.ensures.ended in
    let under = ended.1.1.1.1.1.0 in
    let rest = c.in_ok-id.ensures.target.rest in
    let more = ended.0 ++ ended.1.0 in
    let at = border_behind AtBegin added in
    let works = pieces_at {T = List ℕ} from.most copy.stream.checkpoint store middle more a b n m (Ok id) (c.requires.ready.same ∙ sym all.0.most)
    ended.1.1.0 in
    let ready = readies {T = List ℕ} from a b named store middle copy added ended.0 ended.1.0 (g.E.Entropy.drawn c.args.entropy.now) (g.E.Entropy.drawn
    c.end_stream.new.entropy) id n m id c.requires.target.fits c.requires.ready works.works rest
    ended.1.1.1.0 under all in
    let archive = copied_in (archive_view copy.archive) copy.block (copy.stream.chunks.items
    ++ chunks_of (repo_view store.repo).keys (cut copy.stream.cutter.block copy.stream.cutter.piece)) in
    let behind : border_behind AtBegin (added ++ more) ≡ AtEnd = behind_record (repo_view store.repo).keys archive added ended.0 ended.1.0 under.adds in
    let next = behind_named from (repo_view c.args.source.now) c.args.self.now.options.timestamp middle named id flown
    (unnamed_rest store middle named.name rest c.requires.unnamed) in
    let carried = carried_then {T = Unit {0}} {U = Unit {0}} added from [] chosen more [] store middle now a b z n m k tt (Err fault)
    (carried_from {T = List ℕ} {U = Unit {0}} added from chosen store middle more a b n m id tt c.requires.target.accepts rest works)
    (c.in_err-name_record.ensures.works from (added ++ more) behind ready next) in (
      more,
      (
        [],
        (
          err_is c.from_residual-in_err-name_record.result fault (λ (r : Result Carried CarryFault). EndsCopy from (archive_adds named.name added more [])
              (target_state a n store) (target_state z k now) r)
              c.from_residual-in_err-name_record.ensures.1 (record {
                carries = carried_err {T = Unit {0}} {U = Carried} added from chosen chosen chosen (more ++ []) more store now now a z n k fault
                    ([], sym (append-nil more) ∙ sym (append-nil (more ++ []))) carried;
                begins = begins_done from named a store copy added ended.0 ended.1.0 c.requires.ready ended.1.1.1.0 ended.1.1.1.1.0 all;
                stands = λ work.
                    subst (λ (l : List Addition). Between a z (KeepsStanding from.most store l)) (append-nil more)
                    (stands_behind_at {T = List ℕ} from.most store middle more [] a b z n m id rest.keys works.works
                    (subst (λ (w : Border). Between b z (KeepsStandingAt w from.most middle []))
                    (sym (record_ends Within (repo_view store.repo).keys archive ended.0 ended.1.0 under.adds))
                    (c.in_err-name_record.ensures.refused.stands work from.most)));
                last = stops_unbroken a (repo_view store.repo).keys more fault c.in_err-name_record.ensures.refusal.unbroken;
                held = subst (λ (l : List Addition). HoldsRefused {T = Carried} at from.most store l now a z (Err fault)) (append-nil more)
                    (held_then {T = Carried} at from.most store middle now more [] a b z (Err fault) rest.keys works.unspent
                    (added_all {T = List ℕ} at from.most store middle more a b n m id works)
                    (c.in_err-name_record.ensures.refused.held (border_behind at more) from.most));
                lists = tt;
                few = begun_same {T = Unit {0}} {U = Carried} (2 * length more + 2) (2 * length more + 2) store now fault (omega arith)
                    (begun_then {T = List ℕ} {U = Unit {0}} (2 * length more) 2 (2 * length more + 2) store middle now (Ok id) (Err fault) (omega arith)
                    works.few c.in_err-name_record.ensures.refused.few);
              }),
          match_err {T = Carried} _ (TagsOr (repo_view store.repo).keys more (g.E.Entropy.drawn c.args.entropy.now)
              (g.E.Entropy.drawn c.name_record.new.entropy)) c.from_residual-in_err-name_record.result fault c.from_residual-in_err-name_record.ensures.1
              (inl c.in_err-name_record.ensures.refusal.unbroken),
        ),
      ),
    )

pub returns-clause-works : goal.returns-clause-works
returns-clause-works g c =
    λ from added all flown.
    let store = c.args.store.now in
    let middle = c.end_stream.new.store in
    let now = c.name_record.new.store in
    let keys = (repo_view store.repo).keys in
    let copy = c.args.copy.now in
    let named = c.args.self.now.named in
    let chosen = named.name ∷ [] in
    let a = g.D.Shelf.told c.args.depot.now in
    let b = g.D.Shelf.told c.end_stream.new.depot in
    let z = g.D.Shelf.told c.name_record.new.depot in
    let n = g.D.Shelf.faults c.args.depot.now in
    let m = g.D.Shelf.faults c.end_stream.new.depot in
    let k = g.D.Shelf.faults c.name_record.new.depot in
    let id = c.in_ok-id.id in
    let ended = c.in_ok-id.ensures.ended in
    let under = ended.1.1.1.1.1.0 in
    let rest = c.in_ok-id.ensures.target.rest in
    let last = ended.0 in
    let more = last ++ ended.1.0 in
    let put = c.of_pieces.result in
    let salt = c.in_ok-name_record.ensures.salt in
    let one = tagged_as under.adds.text under.adds.salt salt.0 in
    let archive = copied_in (archive_view copy.archive) copy.block (copy.stream.chunks.items
    ++ chunks_of keys (cut copy.stream.cutter.block copy.stream.cutter.piece)) in
    let works = pieces_at {T = List ℕ} from.most copy.stream.checkpoint store middle more a b n m (Ok id) (c.requires.ready.same ∙ sym all.0.most)
    ended.1.1.0 in
    let ready = readies {T = List ℕ} from a b named store middle copy added last ended.1.0 (g.E.Entropy.drawn c.args.entropy.now) (g.E.Entropy.drawn
    c.end_stream.new.entropy) id n m id c.requires.target.fits c.requires.ready works.works rest
    ended.1.1.1.0 under all in
    let behind : border_behind AtBegin (added ++ more) ≡ AtEnd = behind_record keys archive added last ended.1.0 under.adds in
    let next = behind_named from (repo_view c.args.source.now) c.args.self.now.options.timestamp middle named id flown
    (unnamed_rest store middle named.name rest c.requires.unnamed) in
    let carried = carried_then {T = Unit {0}} {U = Unit {0}} added from [] chosen more [] store middle now a b z n m k tt (Ok tt)
    (carried_from {T = List ℕ} {U = Unit {0}} added from chosen store middle more a b n m id tt c.requires.target.accepts rest works)
    (c.in_ok-name_record.ensures.works from (added ++ more) behind ready next) in (
      more,
      (
        one ∷ [],
        (
          record {
            carries = subst (λ (l : List Addition). Carries {T = Carried} added from chosen l (target_state a n store) (target_state z k now) (Ok put))
                (append-nil more)
                (carried_as {T = Unit {0}} {U = Carried} added from chosen chosen (more ++ []) store now a z n k tt put carried);
            begins = begins_done from named a store copy added last ended.1.0 c.requires.ready ended.1.1.1.0 ended.1.1.1.1.0 all;
            stands = tt;
            last = tt;
            held = tt;
            lists = (
              lists_done from named a store copy added last ended.1.0 salt.0 c.requires.ready ended.1.1.1.0 under.adds all,
              counts_done from copy c.end_stream.new.self.stream added last ended.1.0 keys archive put all.0 ended.1.1.1.0.1 ended.1.1.1.1.1.1 under.adds
                  (ap (λ (x : Carried). x.chunks) c.of_pieces.ensures
                  ∙ (c.put.ensures.0 ∙ ap (λ (w : PieceWriter). w.put) c.in_ok-id.ensures.kept))
                  (ap (λ (x : Carried). x.bytes) c.of_pieces.ensures
                  ∙ (c.put.ensures.1 ∙ ap (λ (w : PieceWriter). w.bytes) c.in_ok-id.ensures.kept))
                  (ap (λ (x : Carried). x.meta) c.of_pieces.ensures ∙ c.put-2.ensures.0),
            );
            few = begun_as {T = Unit {0}} {U = Carried} (2 * length more + 2) (2 * length more + 2) store now tt put (omega arith)
                (begun_then {T = List ℕ} {U = Unit {0}} (2 * length more) 2 (2 * length more + 2) store middle now (Ok id) (Ok tt) (omega arith) works.few
                c.in_ok-name_record.ensures.refused.few);
          },
          record_named c.args.self.now.options.timestamp (repo_view c.args.source.now) store middle now named id one (g.E.Entropy.drawn c.args.entropy.now)
              (g.E.Entropy.drawn c.end_stream.new.entropy) (g.E.Entropy.drawn c.name_record.new.entropy) rest under.id_is
              c.in_ok-name_record.ensures.target.named c.in_ok-name_record.ensures.target.accepted under.drew salt.1.0 salt.1.1,
        ),
      ),
    )

pub returns-in_err-id-clause-refused : goal.returns-in_err-id-clause-refused
returns-in_err-id-clause-refused g c =
    λ from added all.
    let store = c.args.store.now in
    let a = g.D.Shelf.told c.args.depot.now in
    let named = c.args.self.now.named in
    let fault = c.in_err-id.field-0.0 in
    err_is c.from_residual.result fault (λ (r : Result Carried CarryFault). IfErr r (RefusesEnd from a (repo_view store.repo).keys named.name))
    c.from_residual.ensures.1 (record_refused from a named store c.args.copy.now added fault c.requires.ready all c.in_err-id.ensures.refused)

pub returns-in_err-id-clause-refusal : goal.returns-in_err-id-clause-refusal
returns-in_err-id-clause-refusal g c =
    stops_ending {T = Carried} _ _ _ _ _ _ _ c.from_residual.result
    (let b = g.D.Shelf.told c.end_stream.new.depot in
    let keys = (repo_view c.args.store.now.repo).keys in
    let fault = c.in_err-id.field-0.0 in
    err_is c.from_residual.result fault (λ (r : Result Carried CarryFault). IfErr r (StopsTarget b keys)) c.from_residual.ensures.1
    (stops_of_pieces b keys fault c.in_err-id.ensures.target.stops))
    (let store = c.args.store.now in
    let now = c.end_stream.new.store in
    let b = g.D.Shelf.told c.end_stream.new.depot in
    let copy = c.args.copy.now in
    let most = copy.contents.checkpoint in
    let fault = c.in_err-id.field-0.0 in
    err_is c.from_residual.result fault (λ (r : Result Carried CarryFault). IfErr r (Leaves most store b now)) c.from_residual.ensures.1
    (left_then most copy.stream.checkpoint store store b now fault c.requires.ready.same (rest_here store) c.in_err-id.ensures.left))
    (let b = g.D.Shelf.told c.end_stream.new.depot in
    let store = c.args.store.now in
    let given = c.args.self.now.options.timestamp in
    let source = repo_view c.args.source.now in
    let named = c.args.self.now.named in
    let fault = c.in_err-id.field-0.0 in
    err_is c.from_residual.result fault (λ (r : Result Carried CarryFault). IfErr r (IsLimited b given source store named)) c.from_residual.ensures.1
    (pieces_limit b (repo_view store.repo).keys given source store named fault c.in_err-id.ensures.target.stops))

pub returns-in_err-name_record-clause-refusal : goal.returns-in_err-name_record-clause-refusal
returns-in_err-name_record-clause-refusal g c =
    stops_ending {T = Carried} _ _ _ _ _ _ _ c.from_residual-in_err-name_record.result
    (let d = g.D.Shelf.told c.name_record.new.depot in
    let keys = (repo_view c.end_stream.new.store.repo).keys in
    let fault = c.in_err-name_record.field-0.0 in
    err_is c.from_residual-in_err-name_record.result fault (λ (r : Result Carried CarryFault). IfErr r (StopsTarget d (repo_view c.args.store.now.repo).keys))
    c.from_residual-in_err-name_record.ensures.1
    (subst (λ (k : Keys). StopsTarget d k fault) c.in_ok-id.ensures.target.rest.keys c.in_err-name_record.ensures.refused.stops))
    (let store = c.args.store.now in
    let now = c.name_record.new.store in
    let d = g.D.Shelf.told c.name_record.new.depot in
    let most = c.args.copy.now.contents.checkpoint in
    let fault = c.in_err-name_record.field-0.0 in
    err_is c.from_residual-in_err-name_record.result fault (λ (r : Result Carried CarryFault). IfErr r (Leaves most store d now))
    c.from_residual-in_err-name_record.ensures.1 (target_leaves most store d now fault c.in_err-name_record.ensures.refusal.target))
    (let d = g.D.Shelf.told c.name_record.new.depot in
    let store = c.args.store.now in
    let given = c.args.self.now.options.timestamp in
    let source = repo_view c.args.source.now in
    let named = c.args.self.now.named in
    let fault = c.in_err-name_record.field-0.0 in
    let under = c.in_ok-id.ensures.ended.1.1.1.1.1.0 in
    err_is c.from_residual-in_err-name_record.result fault (λ (r : Result Carried CarryFault). IfErr r (IsLimited d given source store named))
    c.from_residual-in_err-name_record.ensures.1
    (record_limit d given source store c.end_stream.new.store named c.in_ok-id.id under.adds.text fault c.in_ok-id.ensures.target.rest under.id_is
    c.requires.unnamed c.in_err-name_record.ensures.refused.limit))

pub returns-clause-target : goal.returns-clause-target
returns-clause-target g c = record {
  most =
      let store = c.args.store.now in
      let middle = c.end_stream.new.store in
      most_then store middle c.name_record.new.store (most_from store middle c.in_ok-id.ensures.target.rest) c.in_ok-name_record.ensures.target.most;
  accepted = search rules;
  pending = search rules;
  packable = search rules;
  fits = search rules;
  unspent = search rules;
}
