-- Lemmas on specs/Walk.antt: what is to come from where a walk stands, and what it fits.
use Rattle.std.proofs.Common.{◌≡◌, ◌≢◌, ℕ, zero, suc, ◌+◌, ◌<◌, ◌≤◌, List, [], ◌∷◌, ◌++◌, length, take, drop, get_or, Ok, Some, None}
use Rattle.std.proofs.Common.{refl, sym, ◌∙◌, ap, subst, arith}
use Rattle.std.proofs.Common.{add-one, drop-cons, append_assoc, append-nil}
use Rattle.std.proofs.lemmas.List.{drop_all}
use Rattle.ferry_disk.specs.Files.{Files}
use Rattle.ferry_item.specs.Item.{ItemText}
use Rattle.ferry_item.specs.Stream.{Front, front_item, an_item, nothing_yet, a_fault}
use Rattle.ferry_item.specs.Stream.{StandsInFront, item_stands, item_is_faulty, no_map_stands, rule_is_broken, value_ends}
use Rattle.ferry_item.specs.Stream.{ItemsOf, no_more_items, one_more_item, joined}
use Rattle.ferry_item.specs.declared.fault.ItemFault.{ItemFault}
use Rattle.ferry_item.specs.declared.fault.ItemFault.TheVariants as Items
use Rattle.ferry_item.proofs.FrontLemmas.{front_both}
use Rattle.ferry_item.proofs.StreamLemmas.{streams_joined}
use Rattle.ferry_log.specs.State.{LogState}
use Rattle.ferry_mac.specs.declared.keys.Keys.{Keys}
use Rattle.ferry_repo.specs.Fault.{IsOfFiles, item_fault}
use Rattle.ferry_repo.specs.Objects.{HoldsChunk, RefusesChunk}
use Rattle.ferry_repo.specs.Walk.{item_comes, chunk_comes, chunk_refused, item_faulty, stream_whole, stream_cut, WalkState, IsToCome, LeadsOn, Ends}
use Rattle.ferry_repo.specs.Walk.{HoldChunks, FitsWalk, begin_walk}
use Rattle.ferry_repo.specs.declared.fault.RepoFault.{RepoFault}
use Rattle.ferry_repo.specs.declared.fault.RepoFault.TheVariants.{Item}
use Rattle.ferry_repo.specs.declared.walk.Ending.{Ending}
use Rattle.ferry_repo.specs.declared.walk.Ending.TheVariants.{Open, Whole, Cut}

-- where a walk stands
abbrev pub at : List ℕ → List (List ℕ) → ℕ → List ℕ → Ending → WalkState
at id ids read ahead ending = record { id = id; ids = ids; read = read; ahead = ahead; ending = ending }

-- ---- what is to come

pub leads_none : (files : Files) (log : LogState) (keys : Keys) (walk : WalkState) → LeadsOn files log keys walk [] walk
leads_none files log keys walk items end h = h

pub leads_then : (files : Files) (log : LogState) (keys : Keys) (from mid to : WalkState) (before : List ItemText)
    → LeadsOn files log keys from [] mid → LeadsOn files log keys mid before to → LeadsOn files log keys from before to
leads_then files log keys from mid to before first second items end h = first (before ++ items) end (second items end h)

-- an item stands in front
pub leads_item : (files : Files) (log : LogState) (keys : Keys) (id : List ℕ) (ids : List (List ℕ)) (read : ℕ) (ahead rest : List ℕ) (item : ItemText)
    → front_item ahead ≡ an_item item rest
    → LeadsOn files log keys (at id ids read ahead Open) (item ∷ []) (at id ids read rest Open)
unfolding IsToCome
leads_item files log keys id ids read ahead rest item front items end h = item_comes ahead rest (drop read ids) item items end front h

-- the next chunk stands in front of those behind it
next_chunk : (ids : List (List ℕ)) (read : ℕ) → read < length ids → drop read ids ≡ get_or ids read [] ∷ drop (read + 1) ids
next_chunk ids read lt = rw (add-one read) (drop-cons ids read [] lt)

-- a chunk is read
pub leads_chunk : (files : Files) (log : LogState) (keys : Keys) (id : List ℕ) (ids : List (List ℕ)) (read : ℕ) (ahead content : List ℕ)
    → front_item ahead ≡ nothing_yet → read < length ids → HoldsChunk files log keys (get_or ids read []) content
    → LeadsOn files log keys (at id ids read ahead Open) [] (at id ids (read + 1) (ahead ++ content) Open)
unfolding IsToCome
leads_chunk files log keys id ids read ahead content front lt holds items end h =
    rw (next_chunk ids read lt) (chunk_comes ahead (get_or ids read []) content (drop (read + 1) ids) items end front holds h)

-- the end of the stream is met
pub leads_end : (files : Files) (log : LogState) (keys : Keys) (id : List ℕ) (ids : List (List ℕ)) (read : ℕ) (ahead after : List ℕ) (ending : Ending)
    → front_item ahead ≡ nothing_yet → length ids ≤ read → Ends ahead ending
    → LeadsOn files log keys (at id ids read ahead Open) [] (at id ids read after ending)
unfolding IsToCome
leads_end files log keys id ids read ahead after Open front le ends items end h = absurd ends
leads_end files log keys id ids read ahead after Whole front le ends items end h = rw (drop_all read ids le, ends, h.0, h.1) stream_whole
leads_end files log keys id ids read ahead after Cut front le ends items end h = rw (drop_all read ids le, h.0, h.1) (stream_cut ahead front ends)

-- nothing is to come where the stream is whole
pub comes_none : (files : Files) (log : LogState) (keys : Keys) (id : List ℕ) (ids : List (List ℕ)) (read : ℕ) (ahead : List ℕ)
    → IsToCome files log keys (at id ids read ahead Whole) [] None
unfolding IsToCome
comes_none files log keys id ids read ahead = (refl, refl)

pub comes_cut : (files : Files) (log : LogState) (keys : Keys) (id : List ℕ) (ids : List (List ℕ)) (read : ℕ) (ahead : List ℕ)
    → IsToCome files log keys (at id ids read ahead Cut) [] (Some (Item id Items.Rest))
unfolding IsToCome
comes_cut files log keys id ids read ahead = (refl, refl)

comes_faulty : (files : Files) (log : LogState) (keys : Keys) (id : List ℕ) (ids : List (List ℕ)) (read : ℕ) (ahead : List ℕ) (fault : ItemFault)
    → front_item ahead ≡ a_fault fault → IsToCome files log keys (at id ids read ahead Open) [] (Some (Item id fault))
unfolding IsToCome
comes_faulty files log keys id ids read ahead fault front = item_faulty ahead (drop read ids) fault front

-- a fault of an item, where it isn't want of memory
pub comes_item_fault : (files : Files) (log : LogState) (keys : Keys) (id : List ℕ) (ids : List (List ℕ)) (read : ℕ) (ahead : List ℕ) (fault : ItemFault)
    → (fault ≢ Items.Memory → front_item ahead ≡ a_fault fault) → IsOfFiles (item_fault id fault)
    → IsToCome files log keys (at id ids read ahead Open) [] (Some (item_fault id fault))
comes_item_fault files log keys id ids read ahead Items.Pack front of_files = comes_faulty files log keys id ids read ahead Items.Pack (front (λ e. cc))
comes_item_fault files log keys id ids read ahead Items.Path front of_files = comes_faulty files log keys id ids read ahead Items.Path (front (λ e. cc))
comes_item_fault files log keys id ids read ahead Items.Chunks front of_files = comes_faulty files log keys id ids read ahead Items.Chunks (front (λ e. cc))
comes_item_fault files log keys id ids read ahead Items.Healed front of_files = comes_faulty files log keys id ids read ahead Items.Healed (front (λ e. cc))
comes_item_fault files log keys id ids read ahead Items.Rest front of_files = comes_faulty files log keys id ids read ahead Items.Rest (front (λ e. cc))
comes_item_fault files log keys id ids read ahead Items.Memory front of_files = absurd of_files

-- a chunk is refused
pub comes_refused : (files : Files) (log : LogState) (keys : Keys) (id : List ℕ) (ids : List (List ℕ)) (read : ℕ) (ahead : List ℕ) (fault : RepoFault)
    → front_item ahead ≡ nothing_yet → read < length ids → IsOfFiles fault → RefusesChunk files log keys (get_or ids read []) fault
    → IsToCome files log keys (at id ids read ahead Open) [] (Some fault)
unfolding IsToCome
comes_refused files log keys id ids read ahead fault front lt of_files refuses =
    rw (next_chunk ids read lt) (chunk_refused ahead (get_or ids read []) (drop (read + 1) ids) fault front of_files refuses)

-- ---- what a walk fits

-- in front of its stream a walk fits all files
pub fits_begin : (files : Files) (log : LogState) (keys : Keys) (id : List ℕ) (ids : List (List ℕ)) → FitsWalk files log keys (begin_walk id ids)
fits_begin files log keys id ids = record {
  contents = [];
  hold = tt;
  items = [];
  front = [];
  answered = no_more_items;
  left = [];
  split = refl;
  left_is = refl;
  met = omega arith;
}

-- the spelling of the item in front
spelled_at : (bytes : List ℕ) (front : Front) (text : ItemText) (rest : List ℕ) → StandsInFront bytes front → front ≡ an_item text rest
    → (spelled : List ℕ) × (bytes ≡ spelled ++ rest) × ItemsOf spelled (text ∷ [])
spelled_at bytes front text rest (item_stands pairs found spelling after spelled is) e =
    let same : after ≡ rest = cc in
    let same_text : found ≡ text = cc in (
      spelling,
      ap (λ s. spelling ++ s) same,
      subst (λ s. ItemsOf s (text ∷ [])) (append-nil spelling)
          (one_more_item pairs text spelling [] [] spelled (is ∙ ap (λ (t : ItemText). Ok t) same_text) no_more_items),
    )
spelled_at bytes front text rest (item_is_faulty pairs found spelling after spelled is) e = absurd cc
spelled_at bytes front text rest (no_map_stands t spelling after spelled is) e = absurd cc
spelled_at bytes front text rest (rule_is_broken _ broken is short) e = absurd cc
spelled_at bytes front text rest (value_ends _ is) e = absurd cc

pub fits_item : (files : Files) (log : LogState) (keys : Keys) (id : List ℕ) (ids : List (List ℕ)) (read : ℕ) (ahead rest : List ℕ) (item : ItemText)
    → front_item ahead ≡ an_item item rest → FitsWalk files log keys (at id ids read ahead Open) → FitsWalk files log keys (at id ids read rest Open)
fits_item files log keys id ids read ahead rest item front fits =
    let s = spelled_at ahead (an_item item rest) item rest ((front_both ahead (an_item item rest)).1 front) refl in
    record {
      contents = fits.contents;
      hold = fits.hold;
      items = fits.items ++ (item ∷ []);
      front = fits.front ++ s.0;
      answered = streams_joined fits.front s.0 fits.items (item ∷ []) fits.answered s.2;
      left = rest;
      split = fits.split ∙ (ap (λ b. fits.front ++ b) (fits.left_is ∙ s.1) ∙ sym (append_assoc fits.front s.0 rest));
      left_is = refl;
      met = fits.met;
    }

hold_more : (files : Files) (log : LogState) (keys : Keys) (ids contents : List (List ℕ)) (id content : List ℕ) → HoldChunks files log keys ids contents
    → HoldsChunk files log keys id content → HoldChunks files log keys (ids ++ (id ∷ [])) (contents ++ (content ∷ []))
hold_more files log keys [] [] id content hold holds = (holds, tt)
hold_more files log keys [] (c ∷ cs) id content hold holds = absurd hold
hold_more files log keys (i ∷ is) [] id content hold holds = absurd hold
hold_more files log keys (i ∷ is) (c ∷ cs) id content hold holds = (hold.0, hold_more files log keys is cs id content hold.1 holds)

joined_more : (contents : List (List ℕ)) (content : List ℕ) → joined (contents ++ (content ∷ [])) ≡ joined contents ++ content
joined_more [] content = append-nil content
joined_more (c ∷ cs) content = ap (λ s. c ++ s) (joined_more cs content) ∙ sym (append_assoc c (joined cs) content)

take_next : (ids : List (List ℕ)) (read : ℕ) → read < length ids → take (suc read) ids ≡ take read ids ++ (get_or ids read [] ∷ [])
take_next [] read lt = absurd (omega arith)
take_next (i ∷ is) zero lt = refl
take_next (i ∷ is) (suc read) lt = ap (λ s. i ∷ s) (take_next is read (omega arith))

pub fits_chunk : (files : Files) (log : LogState) (keys : Keys) (id : List ℕ) (ids : List (List ℕ)) (read : ℕ) (ahead content : List ℕ)
    → read < length ids → HoldsChunk files log keys (get_or ids read []) content
    → FitsWalk files log keys (at id ids read ahead Open) → FitsWalk files log keys (at id ids (read + 1) (ahead ++ content) Open)
fits_chunk files log keys id ids read ahead content lt holds fits = record {
  contents = fits.contents ++ (content ∷ []);
  hold = rw (add-one read, take_next ids read lt) (hold_more files log keys (take read ids) fits.contents (get_or ids read []) content fits.hold holds);
  items = fits.items;
  front = fits.front;
  answered = fits.answered;
  left = ahead ++ content;
  split = joined_more fits.contents content ∙ (ap (λ s. s ++ content) (fits.split ∙ ap (λ b. fits.front ++ b) fits.left_is)
      ∙ append_assoc fits.front ahead content);
  left_is = refl;
  met = omega (arith, lt);
}

pub fits_end : (files : Files) (log : LogState) (keys : Keys) (id : List ℕ) (ids : List (List ℕ)) (read : ℕ) (ahead after : List ℕ) (ending : Ending)
    → front_item ahead ≡ nothing_yet → length ids ≤ read → Ends ahead ending
    → FitsWalk files log keys (at id ids read ahead Open) → FitsWalk files log keys (at id ids read after ending)
fits_end files log keys id ids read ahead after Open front le ends fits = absurd ends
fits_end files log keys id ids read ahead after Whole front le ends fits = record {
  contents = fits.contents;
  hold = fits.hold;
  items = fits.items;
  front = fits.front;
  answered = fits.answered;
  left = fits.left;
  split = fits.split;
  left_is = fits.left_is ∙ ends;
  met = omega (arith, le, fits.met);
}
fits_end files log keys id ids read ahead after Cut front le ends fits = record {
  contents = fits.contents;
  hold = fits.hold;
  items = fits.items;
  front = fits.front;
  answered = fits.answered;
  left = fits.left;
  split = fits.split;
  left_is = (λ e. ends (sym fits.left_is ∙ e), ap front_item fits.left_is ∙ front);
  met = omega (arith, le, fits.met);
}

-- ---- the steps of a body, by what each call says of the walk after it

-- a step that reads a chunk
pub leads_read : (files : Files) (log : LogState) (keys : Keys) (id : List ℕ) (ids : List (List ℕ)) (read : ℕ) (ahead content : List ℕ) (ending : Ending)
    (after_id : List ℕ) (after_ids : List (List ℕ)) (after_read : ℕ) (after_ahead : List ℕ) (after_ending : Ending)
    → front_item ahead ≡ nothing_yet → ending ≡ Open → read < length ids → HoldsChunk files log keys (get_or ids read []) content
    → after_id ≡ id → after_ids ≡ ids → after_read ≡ read + 1 → after_ahead ≡ ahead ++ content → after_ending ≡ ending
    → LeadsOn files log keys (at id ids read ahead ending) [] (at after_id after_ids after_read after_ahead after_ending)
leads_read files log keys id ids read ahead content ending after_id after_ids after_read after_ahead after_ending front opened lt holds
    same_id same_ids moved fed same_ending =
    rw (same_ending, opened, fed, moved, same_id, same_ids) (leads_chunk files log keys id ids read ahead content front lt holds)

pub fits_read : (files : Files) (log : LogState) (keys : Keys) (id : List ℕ) (ids : List (List ℕ)) (read : ℕ) (ahead content : List ℕ) (ending : Ending)
    (after_id : List ℕ) (after_ids : List (List ℕ)) (after_read : ℕ) (after_ahead : List ℕ) (after_ending : Ending)
    → ending ≡ Open → read < length ids → HoldsChunk files log keys (get_or ids read []) content
    → after_id ≡ id → after_ids ≡ ids → after_read ≡ read + 1 → after_ahead ≡ ahead ++ content → after_ending ≡ ending
    → FitsWalk files log keys (at id ids read ahead ending) → FitsWalk files log keys (at after_id after_ids after_read after_ahead after_ending)
fits_read files log keys id ids read ahead content ending after_id after_ids after_read after_ahead after_ending opened lt holds
    same_id same_ids moved fed same_ending fits =
    rw (same_ending, opened, fed, moved, same_id, same_ids) (fits_chunk files log keys id ids read ahead content lt holds
    (subst (λ (e : Ending). FitsWalk files log keys (at id ids read ahead e)) opened fits))

-- a step that ends the stream
pub leads_ended : (files : Files) (log : LogState) (keys : Keys) (id : List ℕ) (ids : List (List ℕ)) (read : ℕ) (ahead : List ℕ) (ending : Ending)
    (after_id : List ℕ) (after_ids : List (List ℕ)) (after_read : ℕ) (after_ahead : List ℕ) (after_ending : Ending)
    → front_item ahead ≡ nothing_yet → ending ≡ Open → length ids ≤ read → Ends ahead after_ending
    → after_id ≡ id → after_ids ≡ ids → after_read ≡ read
    → LeadsOn files log keys (at id ids read ahead ending) [] (at after_id after_ids after_read after_ahead after_ending)
leads_ended files log keys id ids read ahead ending after_id after_ids after_read after_ahead after_ending front opened le ends same_id same_ids moved =
    rw (opened, moved, same_id, same_ids) (leads_end files log keys id ids read ahead after_ahead after_ending front le ends)

pub fits_ended : (files : Files) (log : LogState) (keys : Keys) (id : List ℕ) (ids : List (List ℕ)) (read : ℕ) (ahead : List ℕ) (ending : Ending)
    (after_id : List ℕ) (after_ids : List (List ℕ)) (after_read : ℕ) (after_ahead : List ℕ) (after_ending : Ending)
    → front_item ahead ≡ nothing_yet → ending ≡ Open → length ids ≤ read → Ends ahead after_ending
    → after_id ≡ id → after_ids ≡ ids → after_read ≡ read
    → FitsWalk files log keys (at id ids read ahead ending) → FitsWalk files log keys (at after_id after_ids after_read after_ahead after_ending)
fits_ended files log keys id ids read ahead ending after_id after_ids after_read after_ahead after_ending front opened le ends same_id same_ids moved fits =
    rw (moved, same_id, same_ids) (fits_end files log keys id ids read ahead after_ahead after_ending front le ends
    (subst (λ (e : Ending). FitsWalk files log keys (at id ids read ahead e)) opened fits))
