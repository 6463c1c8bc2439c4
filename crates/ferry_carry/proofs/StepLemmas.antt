-- Lemmas on specs/Step.antt: a step, put together from what its parts did.
use Rattle.std.proofs.Common.{◌≡◌, ◌+◌, ◌-◌, ◌^◌, ◌++◌, ℕ, inl, inr, Bool, true, false, List, min, Option, Some, None, Result, Ok, Err, IfErr, IfOk, IfSome}
use Rattle.std.proofs.Common.{IsErrAnd, MatchResult, [], refl, sym, ◌∙◌, ap, subst, arith}
use Rattle.ferry_compare.proofs.StepLemmas.{at_first}
use Rattle.ferry_disk.specs.Device.{Told, told_files, heard}
use Rattle.ferry_item.specs.Item.{ItemText, is_healed}
use Rattle.ferry_item.specs.Writing.{field_pairs, item_text}
use Rattle.ferry_item.specs.declared.item.ChunkRef.{ChunkRef}
use Rattle.ferry_mac.specs.declared.keys.Keys.{Keys}
use Rattle.ferry_manifest.specs.declared.manifest.ArchiveRef.{ArchiveRef}
use Rattle.ferry_repo.specs.Archives.{archive_named, ContentsCome, HoldsJoined}
use Rattle.ferry_repo.specs.Cached.{Contents}
use Rattle.ferry_repo.specs.Opening.{FitsRepo, RepoState, repo_view}
use Rattle.ferry_repo.specs.Walk.{walk_view}
use Rattle.ferry_repo.specs.declared.walk.Walk.{Walk}
use Rattle.ferry_store.specs.Store.{StoreFits}
use Rattle.ferry_store.specs.declared.store.Store.{Store}
use Rattle.ferry_carry.proofs.FillingLemmas.{copied_filled}
use Rattle.ferry_carry.proofs.ListingLemmas.{bytes_apart, copied_begun, count_apart, step_begun}
use Rattle.ferry_carry.proofs.ProgressLemmas.{steps_copied, steps_ended}
use Rattle.ferry_piece.proofs.PutsLemmas.{bytes_append, count_append}
use Rattle.ferry_carry.proofs.TagLemmas.{begun_apart}
use Rattle.ferry_carry.specs.Naming.{records_in}
use Rattle.ferry_carry.specs.Carrying.{origin}
use Rattle.ferry_carry.specs.Copied.{IsRead}
use Rattle.ferry_carry.specs.Copying.{BeginsContent, CopiesContent, IsReady, TakesItem, WritesItem}
use Rattle.ferry_piece.specs.Adding.{AddsOn}
use Rattle.ferry_carry.specs.Filling.{FillsOne, FillsStep, WhereHeard}
use Rattle.ferry_piece.specs.Gather.{KeepsRest}
use Rattle.ferry_carry.specs.Listing.{BeginsOne}
use Rattle.ferry_piece.specs.Piece.{BeginsOn, CountsOn}
use Rattle.ferry_carry.specs.Progress.{CopiesOn, IsCopiedSoFar}
use Rattle.ferry_piece.specs.Puts.{Addition, AreOf, Content, Kind, Stream, contents_in, put_bytes, put_count}
use Rattle.ferry_carry.specs.Step.{BeginsMore, CopiesItem, CountsStep, StepsOn}
use Rattle.ferry_carry.specs.declared.copy.Copy.{Copy}
use Rattle.ferry_piece.specs.declared.fault.CarryFault.{CarryFault}
use Rattle.ferry_piece.specs.declared.piece.PieceWriter.{PieceWriter}

-- what was copied of a content by what a shelf told later was so by what it told first
pub copies_first : (told later : Option Told) (source after : RepoState) (block : ℕ) (keys : Keys) (chunks copied : Option (List ChunkRef))
    (more : List (List ℕ)) → heard later ≡ heard told → after ≡ source → CopiesContent later after block keys chunks more copied
    → CopiesContent told source block keys chunks more copied
copies_first told later source after block keys None None more alike kept copies = copies
copies_first told later source after block keys None (Some copied) more alike kept copies = absurd copies
copies_first told later source after block keys (Some chunks) None more alike kept copies = absurd copies
copies_first told later source after block keys (Some chunks) (Some copied) more alike kept copies =
    let content = copies.0 in (
      content,
      (
        copies.1.0,
        (
          copies.1.1.0,
          (
            copies.1.1.1.0,
            at_first told later source after (λ r f. HoldsJoined f r.log r.keys (Some chunks) (Some content)) alike kept copies.1.1.1.1,
          ),
        ),
      ),
    )

-- the checkpoint of what an item was taken of, and of its stream once its content is copied
pub most_taken : (copy next : Copy) → next ≡ record copy { walk = next.walk } → next.contents.checkpoint ≡ copy.contents.checkpoint
most_taken copy next walked = ap (λ (c : Copy). c.contents.checkpoint) walked

pub most_added : (copy next middle : Copy) → next ≡ record copy { walk = next.walk } → middle ≡ record next { contents = middle.contents }
    → copy.stream.checkpoint ≡ copy.contents.checkpoint → middle.stream.checkpoint ≡ copy.contents.checkpoint
most_added copy next middle walked added same =
    ap (λ (c : Copy). c.stream.checkpoint) added ∙ (ap (λ (c : Copy). c.stream.checkpoint) walked ∙ same)

-- the same as far as it came
pub begun_first : (told later : Option Told) (source after : RepoState) (block : ℕ) (chunks : Option (List ChunkRef)) (more : List (List ℕ))
    → heard later ≡ heard told → after ≡ source → BeginsContent later after block chunks more → BeginsContent told source block chunks more
begun_first told later source after block None more alike kept begun = begun
begun_first told later source after block (Some refs) more alike kept (inl begun) =
    inl (record {
      first = begun.first;
      rest = begun.rest;
      split = begun.split;
      contents = begun.contents;
      come = at_first told later source after (λ r f. ContentsCome f r.log r.keys begun.first begun.contents None) alike kept begun.come;
      full = begun.full;
    })
begun_first told later source after block (Some refs) more alike kept (inr all) =
    inr (all.0, (all.1.0, at_first told later source after (λ r f. HoldsJoined f r.log r.keys (Some refs) (Some all.0)) alike kept all.1.1))

-- ---- a step that went on

pub step_copies : (told later : Option Told) (source after : RepoState) (keys keys_now : Keys) (copy next middle now : Copy) (item : ItemText)
    (copied : Option (List ChunkRef)) (contents spelled : List Addition) → heard later ≡ heard told → after ≡ source → keys_now ≡ keys
    → next ≡ record copy { walk = next.walk } → middle ≡ record next { contents = middle.contents } → now ≡ record middle { stream = now.stream }
    → IfSome told (λ t. TakesItem (told_files t) source (walk_view copy.walk) item (walk_view next.walk))
    → AreOf Content contents → CopiesContent later after next.block keys item.chunks (contents_in contents) copied
    → AreOf Stream spelled → WritesItem keys_now middle.stream.cutter middle.stream.chunks.items (record { fields = item.fields; chunks = copied })
    (contents_in spelled) now.stream.cutter now.stream.chunks.items
    → (is_healed (field_pairs (record { fields = item.fields; chunks = copied })) ≡ false → IsRead (record { fields = item.fields; chunks = copied }))
    → CopiesItem told source keys copy (contents ++ spelled) now
step_copies told later source after keys keys_now copy next middle now item copied contents spelled alike kept same walked added wrote taken of content
    of_stream written again =
    let text : ItemText = record { fields = item.fields; chunks = copied } in
    let full = contents_in spelled in
    let walk : now.walk ≡ next.walk = ap (λ (c : Copy). c.walk) wrote ∙ ap (λ (c : Copy). c.walk) added in
    let stream : middle.stream ≡ copy.stream = ap (λ (c : Copy). c.stream) added ∙ ap (λ (c : Copy). c.stream) walked in
    let block : next.block ≡ copy.block = ap (λ (c : Copy). c.block) walked in
    record {
      item = item;
      copied = text;
      contents = contents;
      spelled = spelled;
      pieces = refl;
      of_content = of;
      of_stream = of_stream;
      taken = subst (λ (w : Walk). IfSome told (λ t. TakesItem (told_files t) source (walk_view copy.walk) item (walk_view w))) (sym walk) taken;
      fields = refl;
      content = subst (λ (b : ℕ). CopiesContent told source b keys item.chunks (contents_in contents) copied) block
          (copies_first told later source after next.block keys item.chunks copied (contents_in contents) alike kept content);
      written = subst (λ (k : Keys). WritesItem k copy.stream.cutter copy.stream.chunks.items text full now.stream.cutter now.stream.chunks.items) same
          (subst (λ (s : PieceWriter). WritesItem keys_now s.cutter s.chunks.items text full now.stream.cutter now.stream.chunks.items) stream written);
      again = again;
    }

-- ---- a step that was refused

-- the content of an item came so far
pub content_begun : (told later : Option Told) (source after : RepoState) (keys : Keys) (copy next : Copy) (item : ItemText) (more : List Addition)
    → heard later ≡ heard told → after ≡ source → next ≡ record copy { walk = next.walk }
    → IfSome told (λ t. TakesItem (told_files t) source (walk_view copy.walk) item (walk_view next.walk))
    → AreOf Content more → BeginsContent later after next.block item.chunks (contents_in more) → BeginsMore told source keys copy more
content_begun told later source after keys copy next item more alike kept walked taken of begun =
    inr (record {
      item = item;
      after = walk_view next.walk;
      taken = taken;
      begun = inl (
        of,
        subst (λ (b : ℕ). BeginsContent told source b item.chunks (contents_in more)) (ap (λ (c : Copy). c.block) walked)
            (begun_first told later source after next.block item.chunks (contents_in more) alike kept begun),
      );
    })

-- the stream with an item came so far, whose content was copied
pub spelling_begun : (told later : Option Told) (source after : RepoState) (keys : Keys) (copy next middle : Copy) (item : ItemText)
    (copied : Option (List ChunkRef)) (contents spelled : List Addition) → heard later ≡ heard told → after ≡ source
    → next ≡ record copy { walk = next.walk } → middle ≡ record next { contents = middle.contents }
    → IfSome told (λ t. TakesItem (told_files t) source (walk_view copy.walk) item (walk_view next.walk))
    → AreOf Content contents → CopiesContent later after next.block keys item.chunks (contents_in contents) copied
    → AreOf Stream spelled → BeginsOn middle.stream.cutter (item_text (record { fields = item.fields; chunks = copied })) (contents_in spelled)
    → BeginsMore told source keys copy (contents ++ spelled)
spelling_begun told later source after keys copy next middle item copied contents spelled alike kept walked added taken of content of_stream full =
    let text : ItemText = record { fields = item.fields; chunks = copied } in
    let stream : middle.stream ≡ copy.stream = ap (λ (c : Copy). c.stream) added ∙ ap (λ (c : Copy). c.stream) walked in
    inr (record {
      item = item;
      after = walk_view next.walk;
      taken = taken;
      begun = inr (record {
        copied = text;
        contents = contents;
        spelled = spelled;
        pieces = refl;
        of_content = of;
        of_stream = of_stream;
        fields = refl;
        content = subst (λ (b : ℕ). CopiesContent told source b keys item.chunks (contents_in contents) copied) (ap (λ (c : Copy). c.block) walked)
            (copies_first told later source after next.block keys item.chunks copied (contents_in contents) alike kept content);
        full = subst (λ (s : PieceWriter). BeginsOn s.cutter (item_text text) (contents_in spelled)) stream full;
      });
    })

-- ---- numbers

-- what was counted of a part of which as much of the kind was put as of all
counts_as : (kind : Kind) (writer writer_now : PieceWriter) (more all : List Addition) → put_count kind all ≡ put_count kind more
    → put_bytes kind all ≡ put_bytes kind more → CountsOn kind writer more writer_now → CountsOn kind writer all writer_now
counts_as kind writer writer_now more all puts bytes counts = record {
  put = λ range. counts.put range ∙ ap (λ (count : ℕ). min (writer.put + count) (2 ^ 64 - 1)) (sym puts);
  bytes = λ range. counts.bytes range ∙ ap (λ (count : ℕ). min (writer.bytes + count) (2 ^ 128 - 1)) (sym bytes);
}

-- a step counts what was put of a content, and of the stream
pub step_counts : (copy next middle now : Copy) (contents spelled : List Addition) → next ≡ record copy { walk = next.walk }
    → middle ≡ record next { contents = middle.contents } → now ≡ record middle { stream = now.stream } → AreOf Content contents → AreOf Stream spelled
    → CountsOn Content next.contents contents middle.contents → CountsOn Stream middle.stream spelled now.stream
    → CountsStep copy (contents ++ spelled) now
step_counts copy next middle now contents spelled walked added wrote of of_stream first second =
    let begun : next.contents ≡ copy.contents = ap (λ (c : Copy). c.contents) walked in
    let behind : now.contents ≡ middle.contents = ap (λ (c : Copy). c.contents) wrote in
    let stream : middle.stream ≡ copy.stream = ap (λ (c : Copy). c.stream) added ∙ ap (λ (c : Copy). c.stream) walked in
    let all = contents ++ spelled in
    let puts : put_count Content all ≡ put_count Content contents =
    omega (arith, count_append Content contents spelled, count_apart Content Stream spelled refl of_stream) in
    let bytes : put_bytes Content all ≡ put_bytes Content contents =
    omega (arith, bytes_append Content contents spelled, bytes_apart Content Stream spelled refl of_stream) in
    let stream_puts : put_count Stream all ≡ put_count Stream spelled =
    omega (arith, count_append Stream contents spelled, count_apart Stream Content contents refl of) in
    let stream_bytes : put_bytes Stream all ≡ put_bytes Stream spelled =
    omega (arith, bytes_append Stream contents spelled, bytes_apart Stream Content contents refl of) in
    record {
      contents = subst (λ (w : PieceWriter). CountsOn Content copy.contents all w) (sym behind)
          (subst (λ (w : PieceWriter). CountsOn Content w all middle.contents) begun
          (counts_as Content next.contents middle.contents contents all puts bytes first));
      stream = subst (λ (w : PieceWriter). CountsOn Stream w all now.stream) stream
          (counts_as Stream middle.stream now.stream spelled all stream_puts stream_bytes second);
    }

-- ---- a step by what it did

-- What a step did and added.
abbrev pub StepIs : Option Told → RepoState → Copy → Copy → Store → Store → List Addition → Option Told → Option Told → ℕ → ℕ → Result Bool CarryFault
    → Type 0
StepIs told source copy copy_now store now more a b n m result =
    AddsOn copy.contents.checkpoint store more now a b n m result
    × (IfErr result (λ fault. BeginsMore told source (repo_view store.repo).keys copy more × FillsStep told source copy fault more)
    × IfOk result (StepsOn told source (repo_view store.repo).keys copy more copy_now))

-- The same of an archive of which something was added before.
abbrev pub CopiedIs : Option (List ℕ) → Option Told → RepoState → ArchiveRef → List Addition → Copy → Copy → Store → Store → List Addition → Option Told →
    Option Told
    → ℕ → ℕ → Result Bool CarryFault → Type 0
CopiedIs time told source named added copy copy_now store now more a b n m result =
    AddsOn copy.contents.checkpoint store more now a b n m result
    × ((archive_named named.name source.manifest.archives ≡ Some named
    → IfSome a (λ _. BeginsOne (origin told source copy.block copy.contents.checkpoint time) (repo_view store.repo).keys named.name (added ++ more)))
    × (IfErr result (λ fault. archive_named named.name source.manifest.archives ≡ Some named → WhereHeard a fault
    (λ refusal. FillsOne (origin told source copy.block copy.contents.checkpoint time) (repo_view store.repo).keys named.name refusal (added ++ more)))
    × MatchResult result (CopiesOn (origin told source copy.block copy.contents.checkpoint time) named b now copy_now added more)
    (λ _. records_in more ≡ [])))

module _ (time : Option (List ℕ)) (told a b : Option Told) (source : RepoState) (named : ArchiveRef) (store now : Store) (copy copy_now : Copy)
    (added more : List Addition) (n m : ℕ) (ready : IsReady copy)
    (so : IsCopiedSoFar (origin told source copy.block copy.contents.checkpoint time) named a store copy added) where
  -- where it was refused
  pub copied_refused : (cached : Contents) (result : Result Bool CarryFault) (fault : CarryFault)
      → IfSome told (λ t. FitsRepo (told_files t) source cached) → IsErrAnd result (λ y. y ≡ fault)
      → StepIs told source copy copy_now store now more a b n m result → CopiedIs time told source named added copy copy_now store now more a b n m result
  copied_refused cached (Ok further) fault log_fits e p = absurd e
  copied_refused cached (Err other) fault log_fits e p = (
    p.0,
    (
      λ named_is.
          copied_begun told a source cached copy.block copy.contents.checkpoint time named store copy added more ready log_fits named_is p.1.0.0 so,
      (
        λ named_is. copied_filled told a source copy.block copy.contents.checkpoint time named store copy added more other named_is p.1.0.1 so,
        begun_apart told source (repo_view store.repo).keys copy more p.1.0.0,
      ),
    ),
  )

  -- where it wasn't
  pub copied_behind : (cached : Contents) (further : Bool) → IfSome told (λ t. FitsRepo (told_files t) source cached)
      → IfSome a (λ d. StoreFits false store d.history) → KeepsRest store now → copy_now.archive ≡ copy.archive → copy_now.block ≡ copy.block
      → copy_now.contents.checkpoint ≡ copy.contents.checkpoint → StepIs told source copy copy_now store now more a b n m (Ok further)
      → CopiedIs time told source named added copy copy_now store now more a b n m (Ok further)
  copied_behind cached true log_fits fits rest archive block most p = (
    p.0,
    (
      λ named_is.
          copied_begun told a source cached copy.block copy.contents.checkpoint time named store copy added more ready log_fits named_is
          (step_begun told source (repo_view store.repo).keys copy more copy_now true (omega (arith, ready.stream_room)) p.1.1) so,
      (
        tt,
        steps_copied copy.contents.checkpoint time told a b source cached named store now copy copy_now added more n m log_fits fits p.0.works rest ready
            archive
            block most p.1.1.0 p.1.1.1 so,
      ),
    ),
  )
  copied_behind cached false log_fits fits rest archive block most p = (
    p.0,
    (
      λ named_is.
          copied_begun told a source cached copy.block copy.contents.checkpoint time named store copy added more ready log_fits named_is
          (step_begun told source (repo_view store.repo).keys copy more copy_now false (omega (arith, ready.stream_room)) p.1.1) so,
      (
        tt,
        (
          p.1.1.none,
          λ named_is.
              steps_ended copy.contents.checkpoint time told a b source named store now copy copy_now added more n m named_is fits p.0.works rest archive block
              p.1.1 so,
        ),
      ),
    ),
  )
