-- Lemmas on specs/Steps.antt: an item more, and what a refusal says of the items, from call to call.
use Rattle.std.proofs.Common.{◌≡◌, inl, inr, ℕ, List, [], ◌∷◌, ◌++◌, Option, Some, None, IfSome, refl, sym, subst}
use Rattle.ferry_carry.proofs.ListingLemmas.{item_taken, lists_then}
use Rattle.ferry_carry.proofs.SourceLemmas.{leads_then, wholes_more}
use Rattle.ferry_carry.specs.Copying.{CopiesContent}
use Rattle.ferry_carry.specs.Listing.{FillsOn, ListsItems}
use Rattle.ferry_carry.specs.Refusals.{IsTooLong}
use Rattle.ferry_disk.proofs.DeviceLemmas.{told_any, told_with}
use Rattle.ferry_disk.specs.Device.{Told, heard, told_files}
use Rattle.ferry_disk.specs.Files.{Files}
use Rattle.ferry_item.specs.Item.{ItemText}
use Rattle.ferry_item.specs.Writing.{item_text}
use Rattle.ferry_item.specs.declared.item.ChunkRef.{ChunkRef}
use Rattle.ferry_mac.specs.declared.keys.Keys.{Keys}
use Rattle.ferry_piece.specs.Puts.{Addition, AreOf, Content, contents_in}
use Rattle.ferry_plan.specs.Fault.{source_fault}
use Rattle.ferry_plan.specs.Steps.{GoesOn, IsShort, RefusesBy, RefusesShort, StopsLong, StopsStream, TakesAll, TakesItem}
use Rattle.ferry_plan.specs.declared.fault.PlanFault.{PlanFault}
use Rattle.ferry_plan.specs.declared.fault.PlanFault.TheVariants.{Source, Target, Taken, NotFound, Pieces, Memory}
use Rattle.ferry_repo.specs.Fault.{IsOfFiles}
use Rattle.ferry_repo.specs.Opening.{RepoState}
use Rattle.ferry_repo.specs.Walk.{IsToCome, LeadsOn, WalkState}
use Rattle.ferry_repo.specs.declared.fault.RepoFault.{RepoFault}
use Rattle.ferry_repo.specs.declared.fault.RepoFault.TheVariants as Repos
use Rattle.ferry_write.proofs.StandLemmas.{all-append}

-- ---- RefusesBy

-- a fault of the source that is handed on
pub source_refused : (told : Option Told) (Refused : Files → RepoFault → Type 0) (Long : Files → Type 0) (fault : RepoFault)
    → (IsOfFiles fault → IfSome told (λ t. Refused (told_files t) fault)) → RefusesBy told Refused Long (source_fault fault)
source_refused told Refused Long Repos.NoCommit r = (λ is. cc, r)
source_refused told Refused Long (Repos.Damaged segment at) r = (λ is. cc, r)
source_refused told Refused Long (Repos.Config f) r = (λ is. cc, r)
source_refused told Refused Long (Repos.Key f) r = (λ is. cc, r)
source_refused told Refused Long (Repos.Missing id) r = (λ is. cc, r)
source_refused told Refused Long (Repos.Blob id f) r = (λ is. cc, r)
source_refused told Refused Long (Repos.Manifest f) r = (λ is. cc, r)
source_refused told Refused Long (Repos.Archive id f) r = (λ is. cc, r)
source_refused told Refused Long (Repos.Item id f) r = (λ is. cc, r)
source_refused told Refused Long (Repos.Size id) r = (λ is. cc, r)
source_refused told Refused Long (Repos.KeyFile f) r = (λ is. cc, r)
source_refused told Refused Long (Repos.Other file config) r = (λ is. cc, r)
source_refused told Refused Long Repos.NoKey r = (λ is. cc, r)
source_refused told Refused Long Repos.Device r = (λ is. cc, r)
source_refused told Refused Long Repos.Memory r = tt

-- what a refusal says, by what was known of the files before
pub refused_then : (told later : Option Told) (fault : PlanFault) (Known : Files → Type 0) (Refused Now : Files → RepoFault → Type 0)
    (Long LongNow : Files → Type 0) → heard later ≡ heard told → IfSome told (λ t. Known (told_files t))
    → ((f : Files) (r : RepoFault) → Known f → Refused f r → Now f r) → ((f : Files) → Known f → Long f → LongNow f)
    → RefusesBy later Refused Long fault → RefusesBy told Now LongNow fault
refused_then told later (Source fault) Known Refused Now Long LongNow alike known step long refuses =
    (refuses.0, λ of_files. told_with told later Known (λ f. Refused f fault) (λ f. Now f fault) alike (λ f k r. step f fault k r) known (refuses.1 of_files))
refused_then told later Pieces Known Refused Now Long LongNow alike known step long refuses = told_with told later Known Long LongNow alike long known refuses
refused_then told later Memory Known Refused Now Long LongNow alike known step long refuses = tt
refused_then told later (Target fault) Known Refused Now Long LongNow alike known step long refuses = absurd refuses
refused_then told later (Taken name) Known Refused Now Long LongNow alike known step long refuses = absurd refuses
refused_then told later (NotFound name) Known Refused Now Long LongNow alike known step long refuses = absurd refuses

-- ---- an item

pub item_takes : (told : Option Told) (source : RepoState) (block : ℕ) (keys : Keys) (item : ItemText) (copied : Option (List ChunkRef))
    (own full : List Addition) (piece piece_now : List ℕ) → (IsTooLong block item.chunks → ⊥) → AreOf Content own
    → CopiesContent told source block keys item.chunks (contents_in own) copied
    → FillsOn piece (item_text (record { fields = item.fields; chunks = copied })) full piece_now
    → IfSome told (λ t. TakesItem (told_files t) source keys block item piece (own ++ full) piece_now)
item_takes None source block keys item copied own full piece piece_now short of copies fills = tt
item_takes (Some t) source block keys item copied own full piece piece_now short of copies fills =
    let found = item_taken t source block keys item item.fields item.chunks copied (contents_in own) refl refl copies in
    record {
      short = short;
      whole = found.0;
      holds = found.1.holds;
      own = own;
      own_is = (found.1.pieces, of);
      full = full;
      fills = subst (λ (i : ItemText). FillsOn piece (item_text i) full piece_now) found.1.text fills;
      more_is = refl;
    }

-- ---- the items so far

goes_none : (files : Files) (source : RepoState) (keys : Keys) (block : ℕ) (from : WalkState) (piece : List ℕ)
    → GoesOn files source keys block from piece from [] piece
goes_none files source keys block from piece = record {
  comes = record { items = []; leads = λ items end come. come; wholes = []; come = refl; short = tt };
  lists = (refl, refl);
}

pub goes_begun : (told : Option Told) (source : RepoState) (keys : Keys) (block : ℕ) (from : WalkState) (piece : List ℕ)
    → IfSome told (λ t. GoesOn (told_files t) source keys block from piece from [] piece)
goes_begun told source keys block from piece =
    told_any told (λ f. GoesOn f source keys block from piece from [] piece) (λ f. goes_none f source keys block from piece)

goes_more : (files : Files) (source : RepoState) (keys : Keys) (block : ℕ) (from now after : WalkState) (item : ItemText)
    (piece middle piece_now : List ℕ) (more one : List Addition) → GoesOn files source keys block from piece now more middle
    → LeadsOn files source.log source.keys now (item ∷ []) after → TakesItem files source keys block item middle one piece_now
    → GoesOn files source keys block from piece after (more ++ one) piece_now
goes_more files source keys block from now after item piece middle piece_now more one goes leads takes =
    let was = goes.comes in
    record {
      comes = record {
        items = was.items ++ item ∷ [];
        leads = leads_then files source.log source.keys from now after was.items (item ∷ []) was.leads leads;
        wholes = was.wholes ++ takes.whole ∷ [];
        come = wholes_more files source.log source.keys was.items was.wholes item takes.whole was.come takes.holds;
        short = all-append (IsShort block) was.items (item ∷ []) was.short (takes.short, tt);
      };
      lists = subst (λ (last : List Addition). ListsItems keys block piece (was.wholes ++ takes.whole ∷ []) (more ++ last) piece_now) (sym takes.more_is)
          (lists_then keys block piece was.wholes takes.whole more takes.own takes.full middle piece_now goes.lists takes.own_is takes.fills);
    }

-- an item more was taken
pub goes_next : (told later last : Option Told) (source middle_repo after_repo : RepoState) (keys : Keys) (block : ℕ) (from now after : WalkState)
    (item : ItemText) (piece middle piece_now : List ℕ) (more one : List Addition) → heard later ≡ heard told → heard last ≡ heard told
    → middle_repo ≡ source → after_repo ≡ source
    → IfSome told (λ t. GoesOn (told_files t) source keys block from piece now more middle)
    → IfSome later (λ t. LeadsOn (told_files t) middle_repo.log middle_repo.keys now (item ∷ []) after)
    → IfSome last (λ t. TakesItem (told_files t) after_repo keys block item middle one piece_now)
    → IfSome told (λ t. GoesOn (told_files t) source keys block from piece after (more ++ one) piece_now)
goes_next told later last source middle_repo after_repo keys block from now after item piece middle piece_now more one alike alike_last kept kept_last goes
    leads takes =
    let leads_on = subst (λ (r : RepoState). IfSome later (λ t. LeadsOn (told_files t) r.log r.keys now (item ∷ []) after)) kept leads in
    let takes_on = subst (λ (r : RepoState). IfSome last (λ t. TakesItem (told_files t) r keys block item middle one piece_now)) kept_last takes in
    told_with told last (λ f. GoesOn f source keys block from piece now more middle × LeadsOn f source.log source.keys now (item ∷ []) after)
    (λ f. TakesItem f source keys block item middle one piece_now) (λ f. GoesOn f source keys block from piece after (more ++ one) piece_now) alike_last
    (λ f known t. goes_more f source keys block from now after item piece middle piece_now more one known.0 known.1 t)
    (told_with told later (λ f. GoesOn f source keys block from piece now more middle) (λ f. LeadsOn f source.log source.keys now (item ∷ []) after)
    (λ f. GoesOn f source keys block from piece now more middle × LeadsOn f source.log source.keys now (item ∷ []) after) alike (λ f g l. (g, l)) goes
    leads_on) takes_on

-- those are all
pub goes_all : (told later : Option Told) (source after : RepoState) (keys : Keys) (block : ℕ) (from now : WalkState) (piece piece_now : List ℕ)
    (more : List Addition) → heard later ≡ heard told → after ≡ source
    → IfSome told (λ t. GoesOn (told_files t) source keys block from piece now more piece_now)
    → IfSome later (λ t. IsToCome (told_files t) after.log after.keys now [] None)
    → IfSome told (λ t. TakesAll (told_files t) source keys block from piece more piece_now)
goes_all told later source after keys block from now piece piece_now more alike kept goes end =
    told_with told later (λ f. GoesOn f source keys block from piece now more piece_now) (λ f. IsToCome f source.log source.keys now [] None)
    (λ f. TakesAll f source keys block from piece more piece_now) alike (λ f g e. record { last = now; goes = g; end = e }) goes
    (subst (λ (r : RepoState). IfSome later (λ t. IsToCome (told_files t) r.log r.keys now [] None)) kept end)

-- the stream is refused where the walk stands
pub stream_stops : (told later : Option Told) (source after : RepoState) (keys : Keys) (block : ℕ) (from now : WalkState) (piece piece_now : List ℕ)
    (more : List Addition) (fault : RepoFault) → heard later ≡ heard told → after ≡ source
    → IfSome told (λ t. GoesOn (told_files t) source keys block from piece now more piece_now)
    → (IsOfFiles fault → IfSome later (λ t. IsToCome (told_files t) after.log after.keys now [] (Some fault)))
    → RefusesBy told (λ there f. StopsStream there source block from f) (λ there. StopsLong there source block from) (source_fault fault)
stream_stops told later source after keys block from now piece piece_now more fault alike kept goes refused =
    source_refused told (λ there f. StopsStream there source block from f) (λ there. StopsLong there source block from) fault
    (λ of_files. told_with told later (λ f. GoesOn f source keys block from piece now more piece_now)
    (λ f. IsToCome f source.log source.keys now [] (Some fault)) (λ f. StopsStream f source block from fault) alike
    (λ f g e. record { now = now; comes = g.comes; refused = inl e }) goes
    (subst (λ (r : RepoState). IfSome later (λ t. IsToCome (told_files t) r.log r.keys now [] (Some fault))) kept (refused of_files)))

-- an item isn't taken
pub item_stops : (told later last : Option Told) (source middle_repo after_repo : RepoState) (keys : Keys) (block block_now : ℕ)
    (from now after : WalkState) (item : ItemText) (piece piece_now : List ℕ) (more : List Addition) (fault : PlanFault) → heard later ≡ heard told
    → heard last ≡ heard told → middle_repo ≡ source → after_repo ≡ source → block_now ≡ block
    → IfSome told (λ t. GoesOn (told_files t) source keys block from piece now more piece_now)
    → IfSome later (λ t. LeadsOn (told_files t) middle_repo.log middle_repo.keys now (item ∷ []) after)
    → RefusesBy last (λ there f. RefusesShort there after_repo block_now item f) (λ there. IsTooLong block_now item.chunks) fault
    → RefusesBy told (λ there f. StopsStream there source block from f) (λ there. StopsLong there source block from) fault
item_stops told later last source middle_repo after_repo keys block block_now from now after item piece piece_now more fault alike alike_last kept kept_last
    same goes leads refuses =
    let leads_on = subst (λ (r : RepoState). IfSome later (λ t. LeadsOn (told_files t) r.log r.keys now (item ∷ []) after)) kept leads in
    let refuses_on = subst (λ (r : RepoState). RefusesBy last (λ there f. RefusesShort there r block item f) (λ there. IsTooLong block item.chunks) fault)
    kept_last
    (subst (λ (b : ℕ). RefusesBy last (λ there f. RefusesShort there after_repo b item f) (λ there. IsTooLong b item.chunks) fault) same refuses) in
    refused_then told last fault (λ f. GoesOn f source keys block from piece now more piece_now × LeadsOn f source.log source.keys now (item ∷ []) after)
    (λ there f. RefusesShort there source block item f) (λ there f. StopsStream there source block from f)
    (λ there. IsTooLong block item.chunks) (λ there. StopsLong there source block from) alike_last
    (told_with told later (λ f. GoesOn f source keys block from piece now more piece_now) (λ f. LeadsOn f source.log source.keys now (item ∷ []) after)
    (λ f. GoesOn f source keys block from piece now more piece_now × LeadsOn f source.log source.keys now (item ∷ []) after) alike (λ f g l. (g, l)) goes
    leads_on)
    (λ f r known refused. record {
      now = now;
      comes = known.0.comes;
      refused = inr (item, (after, (known.1, refused)));
    })
    (λ f known long. record {
      now = now;
      comes = known.0.comes;
      item = item;
      after = after;
      taken = known.1;
      long = long;
    }) refuses_on
