-- What a transfer lists of an archive is among the contents that the archive has, as it is cut.
use Rattle.std.proofs.Common.{◌≡◌, ◌⊎◌, inl, inr, ℕ, zero, List, [], ◌∷◌, ◌++◌, length, refl, sym, ◌∙◌, ap, subst, arith}
use Rattle.std.proofs.lemmas.List.{append-nil, append_assoc}
use Rattle.std.proofs.lemmas.List.Elements.{All-append}
use Rattle.std.proofs.lemmas.List.Folds.{concat-append}
use Rattle.std.specs.List.{AllByRecursion, concat}
use Rattle.ferry_carry.specs.Carrying.{Origin}
use Rattle.ferry_carry.specs.Copied.{adds_of, contents_of, copied_item, copied_stream, pieces_of, stream_block, stream_pieces}
use Rattle.ferry_carry.specs.Listing.{ListsArchive, ListsContents, ListsItems}
use Rattle.ferry_carry.specs.Naming.{TaggedRecord}
use Rattle.ferry_disk.specs.Files.{Files}
use Rattle.ferry_item.specs.Writing.{item_text}
use Rattle.ferry_mac.specs.declared.keys.Keys.{Keys}
use Rattle.ferry_piece.proofs.AmongLemmas.{all_among, all_both, among_behind, among_front, each_to}
use Rattle.ferry_piece.proofs.PutsLemmas.{contents_append}
use Rattle.ferry_piece.specs.Gather.{IsAmong}
use Rattle.ferry_piece.specs.Puts.{Addition, Record, addition, contents_in}
use Rattle.ferry_rechunk.proofs.CuttingLemmas.{fed_cut, fed_nothing}
use Rattle.ferry_rechunk.specs.Cut.{cut}
use Rattle.ferry_rechunk.specs.Cutting.{IsFed}
use Rattle.ferry_repo.specs.Whole.{WholeItem}

-- what is fed behind what was
fed_then : (block : ℕ) (fed more piece piece_now : List ℕ) (taken full : List (List ℕ)) → IsFed block fed taken piece
    → IsFed block (piece ++ more) full piece_now
    → IsFed block (fed ++ more) (taken ++ full) piece_now
fed_then block fed more piece piece_now taken full first next = record {
  joined = ap (λ (l : List ℕ). l ++ piece_now) (concat-append taken full)
      ∙ (append_assoc (concat taken) (concat full) piece_now
      ∙ (ap (λ (l : List ℕ). concat taken ++ l) next.joined
      ∙ (sym (append_assoc (concat taken) piece more) ∙ ap (λ (l : List ℕ). l ++ more) first.joined)));
  whole = All-append (λ one. length one ≡ block) taken full first.whole next.whole;
  fits = next.fits;
}

-- The stream of these items was fed, behind what was: these pieces became whole, and what is listed is among the pieces of the contents and those.
record FeedsItems (keys : Keys) (block : ℕ) (fed : List ℕ) (taken : List (List ℕ)) (wholes : List WholeItem) (listed : List Addition) (piece_now : List ℕ)
    : Type 0 where
  full : List (List ℕ)
  is_fed : IsFed stream_block (fed ++ copied_stream keys block wholes) (taken ++ full) piece_now
  among : AllByRecursion (λ content. IsAmong (contents_of block wholes) content ⊎ IsAmong full content) (contents_in listed)

feeds : (keys : Keys) (block : ℕ) (fed : List ℕ) (taken : List (List ℕ)) (piece : List ℕ) (wholes : List WholeItem) (listed : List Addition)
    (piece_now : List ℕ) → IsFed stream_block fed taken piece
    → ListsItems keys block piece wholes listed piece_now → FeedsItems keys block fed taken wholes listed piece_now
feeds keys block fed taken piece [] listed piece_now is lists = record {
  full = [];
  is_fed = subst (λ (l : List ℕ). IsFed stream_block l (taken ++ []) piece_now) (sym (append-nil fed))
      (subst (λ (l : List (List ℕ)). IsFed stream_block fed l piece_now) (sym (append-nil taken))
      (subst (IsFed stream_block fed taken) (sym lists.1) is));
  among = subst (λ (l : List Addition). AllByRecursion (λ content. IsAmong (contents_of block []) content ⊎ IsAmong [] content) (contents_in l))
      (sym lists.0) tt;
}
feeds keys block fed taken piece (whole ∷ wholes) listed piece_now is lists =
    let own = lists.0 in
    let full = lists.1.0 in
    let middle = lists.1.1.0 in
    let rest = lists.1.1.1.0 in
    let own_is = lists.1.1.1.1.0 in
    let fills = lists.1.1.1.1.1.0 in
    let listed_is = lists.1.1.1.1.1.1.0 in
    let later = lists.1.1.1.1.1.1.1 in
    let text = item_text (copied_item keys block whole) in
    let fulls = contents_in full in
    let next = feeds keys block (fed ++ text) (taken ++ fulls) middle wholes rest piece_now
    (fed_then stream_block fed text piece middle taken fulls is fills.fed) later in
    let pieces = pieces_of block whole.content in
    let Fine : List ℕ → Type 0 = λ content. IsAmong (pieces ++ contents_of block wholes) content ⊎ IsAmong (fulls ++ next.full) content in
    let of_own : AllByRecursion Fine (contents_in own) =
    subst (AllByRecursion Fine) (sym own_is.0)
    (each_to (IsAmong pieces) Fine pieces (λ content among. inl (among_front pieces (contents_of block wholes) content among)) (all_among pieces)) in
    let of_full : AllByRecursion Fine fulls =
    each_to (IsAmong fulls) Fine fulls (λ content among. inr (among_front fulls next.full content among)) (all_among fulls) in
    let of_rest : AllByRecursion Fine (contents_in rest) =
    each_to (λ content. IsAmong (contents_of block wholes) content ⊎ IsAmong next.full content) Fine (contents_in rest)
    (λ content among. elim among [
      | inl first ↦ inl (among_behind pieces (contents_of block wholes) content first)
      | inr second ↦ inr (among_behind fulls next.full content second)
    ]) next.among in
    record {
      full = fulls ++ next.full;
      is_fed = subst (λ (l : List ℕ). IsFed stream_block l (taken ++ (fulls ++ next.full)) piece_now) (append_assoc fed text (copied_stream keys block wholes))
          (subst (λ (l : List (List ℕ)). IsFed stream_block ((fed ++ text) ++ copied_stream keys block wholes) l piece_now) (append_assoc taken fulls next.full)
          next.is_fed);
      among = subst (λ (l : List Addition). AllByRecursion Fine (contents_in l)) (sym listed_is)
          (subst (AllByRecursion Fine) (sym (contents_append own (full ++ rest)))
          (all_both Fine (contents_in own) (contents_in (full ++ rest)) of_own
          (subst (AllByRecursion Fine) (sym (contents_append full rest)) (all_both Fine fulls (contents_in rest) of_full of_rest))));
    }

-- what is listed of an archive in front of its record
contents_among : (there : Files) (from : Origin) (keys : Keys) (name text : List ℕ) (added : List Addition) → (lists : ListsContents there from keys name added)
    → AllByRecursion (IsAmong (adds_of keys from.block lists.whole.items text)) (contents_in added)
contents_among there from keys name text added lists =
    let items = lists.whole.items in
    let block = from.block in
    let fed = feeds keys block [] [] [] items lists.listed lists.piece (fed_nothing stream_block) lists.lists in
    let last = cut stream_block lists.piece in
    let pieces = stream_pieces keys block items in
    let cut_is : pieces ≡ fed.full ++ last = fed_cut stream_block (copied_stream keys block items) lists.piece fed.full (omega arith) fed.is_fed in
    let all = adds_of keys block items text in
    let in_stream : (content : List ℕ) → IsAmong (fed.full ++ last) content → IsAmong all content =
    λ content among.
    among_behind (contents_of block items) (pieces ++ text ∷ []) content
    (among_front pieces (text ∷ []) content (subst (λ (l : List (List ℕ)). IsAmong l content) (sym cut_is) among)) in
    let of_listed : AllByRecursion (IsAmong all) (contents_in lists.listed) =
    each_to (λ content. IsAmong (contents_of block items) content ⊎ IsAmong fed.full content) (IsAmong all) (contents_in lists.listed)
    (λ content among. elim among [
      | inl first ↦ among_front (contents_of block items) (pieces ++ text ∷ []) content first
      | inr second ↦ in_stream content (among_front fed.full last content second)
    ]) fed.among in
    let of_last : AllByRecursion (IsAmong all) (contents_in lists.last) =
    subst (AllByRecursion (IsAmong all)) (sym lists.last_is.0)
    (each_to (IsAmong last) (IsAmong all) last (λ content among. in_stream content (among_behind fed.full last content among)) (all_among last)) in
    subst (λ (l : List Addition). AllByRecursion (IsAmong all) (contents_in l)) (sym lists.added_is)
    (subst (AllByRecursion (IsAmong all)) (sym (contents_append lists.listed lists.last))
    (all_both (IsAmong all) (contents_in lists.listed) (contents_in lists.last) of_listed of_last))

-- and with its record
pub archive_among : (there : Files) (from : Origin) (keys : Keys) (name : List ℕ) (one : TaggedRecord) (added : List Addition)
    → (lists : ListsArchive there from keys name one added)
    → AllByRecursion (IsAmong (adds_of keys from.block lists.lists.whole.items one.text)) (contents_in added)
archive_among there from keys name one added lists =
    let items = lists.lists.whole.items in
    let all = adds_of keys from.block items one.text in
    let pieces = stream_pieces keys from.block items in
    let last : List Addition = addition Record one.text lists.put ∷ [] in
    let record_among : IsAmong all one.text =
    among_behind (contents_of from.block items) (pieces ++ one.text ∷ []) one.text (among_behind pieces (one.text ∷ []) one.text (zero, refl)) in
    subst (λ (l : List Addition). AllByRecursion (IsAmong all) (contents_in l)) (sym lists.added_is)
    (subst (AllByRecursion (IsAmong all)) (sym (contents_append lists.contents last))
    (all_both (IsAmong all) (contents_in lists.contents) (contents_in last)
    (contents_among there from keys name one.text lists.contents lists.lists) (record_among, tt)))
