-- A transfer beside a plan of the same names: what it adds are the pieces that the plan lists, in the same order, with records between them.
use Rattle.std.proofs.Common.{◌≡◌, inl, inr, ◌<◌, ◌+◌, ℕ, Bool, true, List, [], ◌∷◌, ◌++◌, length, take, drop, Option}
use Rattle.std.proofs.Common.{refl, sym, ◌∙◌, ap, subst, arith, append_assoc, drop_at, length-append, take_at}
use Rattle.std.proofs.lemmas.List.{append-nil}
use Rattle.std.proofs.lemmas.List.Elements.{All-head, All-tail}
use Rattle.std.specs.List.{concat}
use Rattle.ferry_carry.specs.Copied.{copied_item, pieces_of, stream_block}
use Rattle.ferry_carry.specs.Listing.{FillsOn, ListsArchive, ListsContents, ListsItems, ListsName, ListsNames}
use Rattle.ferry_carry.specs.Naming.{TaggedRecord}
use Rattle.ferry_disk.specs.Files.{Files}
use Rattle.ferry_item.specs.Writing.{item_text}
use Rattle.ferry_mac.specs.declared.keys.Keys.{Keys}
use Rattle.ferry_manifest.specs.Manifest.Text.{ManifestText}
use Rattle.ferry_piece.specs.Puts.{Addition, AreOf, ArePieces, Content, Kind, Record, Stream, addition, contents_in, is_piece}
use Rattle.ferry_plan.specs.Plan.{PlansName, PlansNames, source_of}
use Rattle.ferry_plan.specs.Transfer.{transfer_from}
use Rattle.ferry_rechunk.specs.Cut.{cut}
use Rattle.ferry_rechunk.specs.Cutting.{IsFed}
use Rattle.ferry_repo.proofs.WholeLemmas.{one_whole}
use Rattle.ferry_repo.specs.Opening.{RepoState}
use Rattle.ferry_repo.specs.Whole.{WholeArchive, WholeItem}

-- ---- one way to cut a stream

-- A piece shorter than a block isn't a whole one with more behind it.
shorter : {X : Type 0} (block : ℕ) (piece next rest other : List ℕ) → length piece < block → length next ≡ block → piece ≡ (next ++ rest) ++ other → X
shorter block piece next rest other short whole is =
    let size : length piece ≡ length next + length rest + length other =
    ap length is ∙ (length-append (next ++ rest) other ∙ ap (λ (n : ℕ). n + length other) (length-append next rest)) in
    let never : ⊥ = omega (arith, size, whole, short) in absurd never

-- what was fed has one cut into whole pieces and a shorter one
pub one_fed : (block : ℕ) (fed : List ℕ) (taken others : List (List ℕ)) (piece other : List ℕ) → length piece < block → length other < block
    → IsFed block fed taken piece → IsFed block fed others other → (taken ≡ others) × (piece ≡ other)
one_fed block fed [] [] piece other short less a b = (refl, a.joined ∙ sym b.joined)
one_fed block fed [] (next ∷ others) piece other short less a b =
    shorter block piece next (concat others) other short (All-head (λ one. length one ≡ block) next others b.whole) (a.joined ∙ sym b.joined)
one_fed block fed (first ∷ taken) [] piece other short less a b =
    shorter block other first (concat taken) piece less (All-head (λ one. length one ≡ block) first taken a.whole) (b.joined ∙ sym a.joined)
one_fed block fed (first ∷ taken) (next ∷ others) piece other short less a b =
    let Whole : List ℕ → Type 0 = λ one. length one ≡ block in
    let rest = concat taken ++ piece in
    let last = concat others ++ other in
    let whole : length first ≡ block = All-head Whole first taken a.whole in
    let whole_next : length next ≡ block = All-head Whole next others b.whole in
    let same : first ++ rest ≡ next ++ last =
    sym (append_assoc first (concat taken) piece) ∙ (a.joined ∙ (sym b.joined ∙ append_assoc next (concat others) other)) in
    let head : first ≡ next = sym (take_at first rest block whole) ∙ (ap (take block) same ∙ take_at next last block whole_next) in
    let tail : rest ≡ last = sym (drop_at first rest block whole) ∙ (ap (drop block) same ∙ drop_at next last block whole_next) in
    let more = one_fed block rest taken others piece other short less
    (record { joined = refl; whole = All-tail Whole first taken a.whole; fits = a.fits })
    (record { joined = sym tail; whole = All-tail Whole next others b.whole; fits = b.fits }) in
    (ap (λ (l : List ℕ). l ∷ taken) head ∙ ap (λ (l : List (List ℕ)). next ∷ l) more.0, more.1)

-- ---- Alike

-- The first are the pieces of the second in the same order, put or not.
pub data Alike : List Addition → List Addition → Type 0 where
  alike_none : Alike [] []
  alike_piece : (one other : Addition) (pieces added : List Addition) → is_piece other.kind ≡ true → one.kind ≡ other.kind → one.content ≡ other.content
      → Alike pieces added → Alike (one ∷ pieces) (other ∷ added)
  alike_record : (other : Addition) (pieces added : List Addition) → other.kind ≡ Record → Alike pieces added → Alike pieces (other ∷ added)

alike_append : (pieces added more others : List Addition) → Alike pieces added → Alike more others → Alike (pieces ++ more) (added ++ others)
alike_append pieces added more others alike_none q = q
alike_append pieces added more others (alike_piece one other ps xs piece kind content p) q =
    alike_piece one other (ps ++ more) (xs ++ others) piece kind content (alike_append ps xs more others p q)
alike_append pieces added more others (alike_record other ps xs kind p) q =
    alike_record other (ps ++ more) (xs ++ others) kind (alike_append ps xs more others p q)

-- and a record behind them
alike_then : (pieces added : List Addition) (text : List ℕ) (put : Bool) → Alike pieces added → Alike pieces (added ++ addition Record text put ∷ [])
alike_then pieces added text put p =
    subst (λ (l : List Addition). Alike l (added ++ addition Record text put ∷ [])) (append-nil pieces)
    (alike_append pieces added [] (addition Record text put ∷ []) p (alike_record (addition Record text put) [] [] refl alike_none))

alike_of : (kind : Kind) (pieces added : List Addition) → is_piece kind ≡ true → contents_in pieces ≡ contents_in added → AreOf kind pieces
    → AreOf kind added → Alike pieces added
alike_of kind [] [] piece same p q = alike_none
alike_of kind [] (other ∷ added) piece same p q = absurd (let never : ⊥ = cc in never)
alike_of kind (one ∷ pieces) [] piece same p q = absurd (let never : ⊥ = cc in never)
alike_of kind (one ∷ pieces) (other ∷ added) piece same p q =
    let content : one.content ≡ other.content = cc in
    let rest : contents_in pieces ≡ contents_in added = cc in
    alike_piece one other pieces added (ap is_piece q.0 ∙ piece) (p.0 ∙ sym q.0) content (alike_of kind pieces added piece rest p.1 q.1)

-- the same pieces
alike_pieces : (kind : Kind) (contents : List (List ℕ)) (pieces added : List Addition) → is_piece kind ≡ true → ArePieces kind contents pieces
    → ArePieces kind contents added → Alike pieces added
alike_pieces kind contents pieces added piece p q = alike_of kind pieces added piece (p.0 ∙ sym q.0) p.1 q.1

-- ---- an archive

-- what a text makes whole of a stream
fills_alike : (piece text : List ℕ) (full others : List Addition) (now then : List ℕ) → FillsOn piece text full now → FillsOn piece text others then
    → Alike full others × (now ≡ then)
fills_alike piece text full others now then p q =
    let same = one_fed stream_block (piece ++ text) (contents_in full) (contents_in others) now then p.rest q.rest p.fed q.fed in
    (alike_of Stream full others refl same.0 p.of_stream q.of_stream, same.1)

items_alike : (keys : Keys) (block : ℕ) (piece other : List ℕ) (wholes : List WholeItem) (listed others : List Addition) (now then : List ℕ)
    → piece ≡ other → ListsItems keys block piece wholes listed now → ListsItems keys block other wholes others then
    → Alike listed others × (now ≡ then)
items_alike keys block piece other [] listed others now then same p q = (
  subst (λ (l : List Addition). Alike l others) (sym p.0) (subst (Alike []) (sym q.0) alike_none),
  p.1 ∙ (same ∙ sym q.1),
)
items_alike keys block piece other (whole ∷ wholes) listed others now then same p q =
    let mine = p.1.1.1.1 in
    let yours = q.1.1.1.1 in
    let text = item_text (copied_item keys block whole) in
    let own = alike_pieces Content (pieces_of block whole.content) p.0 q.0 refl mine.0 yours.0 in
    let full = fills_alike other text p.1.0 q.1.0 p.1.1.0 q.1.1.0 (subst (λ (held : List ℕ). FillsOn held text p.1.0 p.1.1.0) same mine.1.0) yours.1.0 in
    let rest = items_alike keys block p.1.1.0 q.1.1.0 wholes p.1.1.1.0 q.1.1.1.0 now then full.1 mine.1.1.1 yours.1.1.1 in
    let all = alike_append p.0 q.0 (p.1.0 ++ p.1.1.1.0) (q.1.0 ++ q.1.1.1.0) own
    (alike_append p.1.0 q.1.0 p.1.1.1.0 q.1.1.1.0 full.0 rest.0) in (
      subst (λ (l : List Addition). Alike l others) (sym mine.1.1.0) (subst (Alike (p.0 ++ (p.1.0 ++ p.1.1.1.0))) (sym yours.1.1.0) all),
      rest.1,
    )

contents_alike : (there : Files) (source : RepoState) (block most : ℕ) (time : Option (List ℕ)) (keys : Keys) (name : List ℕ) (pieces added : List Addition)
    → ListsContents there (source_of there source block) keys name pieces → ListsContents there (transfer_from there source block most time) keys name added
    → Alike pieces added
contents_alike there source block most time keys name pieces added p q =
    let same : p.whole ≡ q.whole =
    one_whole there source.log source.keys source.manifest.archives name p.whole q.whole p.source q.source in
    let lists = subst (λ (w : WholeArchive). ListsItems keys block [] w.items p.listed p.piece) same p.lists in
    let items = items_alike keys block [] [] q.whole.items p.listed q.listed p.piece q.piece refl lists q.lists in
    let last = alike_pieces Stream (cut stream_block q.piece) p.last q.last refl
    (subst (λ (held : List ℕ). ArePieces Stream (cut stream_block held) p.last) items.1 p.last_is) q.last_is in
    subst (λ (l : List Addition). Alike l added) (sym p.added_is)
    (subst (Alike (p.listed ++ p.last)) (sym q.added_is) (alike_append p.listed q.listed p.last q.last items.0 last))

archive_alike : (there : Files) (source : RepoState) (block most : ℕ) (time : Option (List ℕ)) (keys : Keys) (name : List ℕ) (one : TaggedRecord)
    (pieces added : List Addition) → ListsContents there (source_of there source block) keys name pieces
    → ListsArchive there (transfer_from there source block most time) keys name one added
    → Alike pieces added
archive_alike there source block most time keys name one pieces added p q =
    subst (Alike pieces) (sym q.added_is)
    (alike_then pieces q.contents one.text q.put (contents_alike there source block most time keys name pieces q.contents p q.lists))

-- ---- names

name_alike : (there : Files) (source : RepoState) (block most : ℕ) (time : Option (List ℕ)) (keys : Keys) (accepted : ManifestText) (before : List (List ℕ))
    (name : List ℕ)
    (records : List TaggedRecord) (pieces added : List Addition) → PlansName there source block keys accepted before name pieces
    → ListsName (transfer_from there source block most time) keys accepted before name records added → Alike pieces added
name_alike there source block most time keys accepted before name records pieces added (inl p) (inl q) =
    subst (λ (l : List Addition). Alike l added) (sym p.1) (subst (Alike []) (sym q.1.1) alike_none)
name_alike there source block most time keys accepted before name records pieces added (inl p) (inr q) = absurd (q.0 p.0)
name_alike there source block most time keys accepted before name records pieces added (inr p) (inl q) = absurd (p.0 q.0)
name_alike there source block most time keys accepted before name records pieces added (inr p) (inr q) =
    archive_alike there source block most time keys name q.1.0 pieces added p.1.0 q.1.1.1

-- what is planned for names, and what is added for them
pub names_alike : (there : Files) (source : RepoState) (block most : ℕ) (time : Option (List ℕ)) (keys : Keys) (accepted : ManifestText) (before names : List
    (List ℕ))
    (records : List TaggedRecord) (pieces added : List Addition) → PlansNames there source block keys accepted before names pieces
    → ListsNames (transfer_from there source block most time) keys accepted before names records added → Alike pieces added
names_alike there source block most time keys accepted before [] records pieces added p q =
    subst (λ (l : List Addition). Alike l added) (sym p) (subst (Alike []) (sym q.1) alike_none)
names_alike there source block most time keys accepted before (name ∷ names) records pieces added p q =
    let all = q.1.1.1 in
    let one = name_alike there source block most time keys accepted before name q.0 p.0 all.0 p.1.1.1.0 all.1.1.1.0 in
    let rest = names_alike there source block most time keys accepted (before ++ name ∷ []) names q.1.0 p.1.0 all.1.0 p.1.1.1.1 all.1.1.1.1 in
    subst (λ (l : List Addition). Alike l added) (sym p.1.1.0)
    (subst (Alike (p.0 ++ p.1.0)) (sym all.1.1.0) (alike_append p.0 all.0 p.1.0 all.1.0 one rest))
