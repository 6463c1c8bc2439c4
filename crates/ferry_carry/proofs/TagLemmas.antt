-- Lemmas on `TagsDrawn` of specs/Naming.antt: the records among what is added, and the salts that they are tagged with.
use Rattle.std.proofs.Common.{◌≡◌, ◌≢◌, ◌⊎◌, inl, inr, ℕ, Bool, false, cond, drop}
use Rattle.std.proofs.Common.{filter, List, [], ◌∷◌, ◌++◌, map, Option, Some, None}
use Rattle.std.proofs.Common.{Result, Ok, Err, IfSome, MatchResult, IsErrAnd, refl, sym, ◌∙◌, ap, subst, append_assoc}
use Rattle.std.proofs.lemmas.List.{append-nil, map-append}
use Rattle.std.proofs.lemmas.List.Elements.{filter-append}
use Rattle.std.proofs.lemmas.List.Prefix.{front_rest}
use Rattle.std.proofs.lemmas.Option.{IfSome_then}
use Rattle.std.specs.List.{AllByRecursion}
use Rattle.ferry_compare.specs.Compare.{Seen, seen}
use Rattle.ferry_disk.specs.Device.{Told}
use Rattle.ferry_disk.specs.Files.{Files}
use Rattle.ferry_mac.specs.declared.keys.Keys.{Keys}
use Rattle.ferry_manifest.specs.Manifest.Text.{ManifestText}
use Rattle.ferry_manifest.specs.Record.Text.{ArchiveText}
use Rattle.ferry_manifest.specs.Record.Writing.{archive_text}
use Rattle.ferry_manifest.specs.declared.manifest.ArchiveRef.{ArchiveRef}
use Rattle.ferry_piece.specs.Adding.{IsNoChunk}
use Rattle.ferry_piece.specs.Puts.{Addition, AreOf, ArePieces, Content, Kind, Record, Stream, addition, contents_in, same_kind}
use Rattle.ferry_piece.specs.declared.fault.CarryFault.{CarryFault}
use Rattle.ferry_repo.specs.Opening.{RepoState, repo_view}
use Rattle.ferry_repo.specs.Whole.{WholeItem}
use Rattle.ferry_store.specs.declared.store.Store.{Store}
use Rattle.ferry_carry.proofs.NextLemmas.{drawn_both, drawn_none}
use Rattle.ferry_carry.specs.Carrying.{Origin}
use Rattle.ferry_carry.specs.Flight.{WorkFits, origin_of}
use Rattle.ferry_carry.specs.Listing.{ListsArchive, ListsItems, ListsName, ListsNames}
use Rattle.ferry_carry.specs.Naming.{AreTaggedBy, Draws, DrawsSalts, HasSalts, TaggedRecord, TagsDrawn, records_in, salts_of}
use Rattle.ferry_carry.specs.Copying.{BeginsContent}
use Rattle.ferry_carry.specs.Step.{BeginsMore, SpellsOn}
use Rattle.ferry_carry.specs.declared.copy.Copy.{Copy}
use Rattle.ferry_carry.specs.declared.flight.Turn.{Turn}
use Rattle.ferry_carry.specs.declared.flight.Turn.TheVariants.{Named}
use Rattle.ferry_carry.specs.declared.flight.Work.{Work}
use Rattle.ferry_carry.specs.declared.flight.Work.TheVariants.{Waiting, Copying, Comparing}
use Rattle.ferry_carry.specs.declared.options.Options.{Options}

-- ---- records

-- whether it is the record of an archive
abbrev is_record : Addition → Bool
is_record one = same_kind Record one.kind

pub records_append : (some more : List Addition) → records_in (some ++ more) ≡ records_in some ++ records_in more
records_append some more =
    ap (map (λ (one : Addition). one.content)) (filter-append is_record some more)
    ∙ map-append (λ (one : Addition). one.content) (filter is_record some) (filter is_record more)

-- pieces are no records
pub pieces_apart : (kind : Kind) → same_kind Record kind ≡ false → (added : List Addition) → AreOf kind added → records_in added ≡ []
pieces_apart kind apart [] of = refl
pieces_apart kind apart (one ∷ added) of =
    let not : same_kind Record one.kind ≡ false = ap (same_kind Record) of.0 ∙ apart in
    ap (λ (b : Bool). map (λ (a : Addition). a.content) (cond b (one ∷ filter is_record added) (filter is_record added))) not
    ∙ pieces_apart kind apart added of.1

-- none and none
pub none_append : (some more : List Addition) → records_in some ≡ [] → records_in more ≡ [] → records_in (some ++ more) ≡ []
none_append some more p q = records_append some more ∙ (ap (λ (l : List (List ℕ)). l ++ records_in more) p ∙ q)

-- nor are those of items
pub items_apart : (keys : Keys) (block : ℕ) (piece : List ℕ) (wholes : List WholeItem) (listed : List Addition) (now : List ℕ)
    → ListsItems keys block piece wholes listed now → records_in listed ≡ []
items_apart keys block piece [] listed now lists = ap records_in lists.0
items_apart keys block piece (whole ∷ wholes) listed now lists =
    let own = lists.0 in
    let full = lists.1.0 in
    let rest = lists.1.1.1.0 in
    let are = lists.1.1.1.1 in
    ap records_in are.1.1.0
    ∙ none_append own (full ++ rest) (pieces_apart Content refl own are.0.1)
    (none_append full rest (pieces_apart Stream refl full are.1.0.of_stream) (items_apart keys block lists.1.1.0 wholes rest now are.1.1.1))

-- of an archive there is one, and it has this text
archive_records : (there : Files) (from : Origin) (keys : Keys) (name : List ℕ) (one : TaggedRecord) (added : List Addition)
    → ListsArchive there from keys name one added → records_in added ≡ one.text ∷ []
archive_records there from keys name one added lists =
    let contents = lists.lists in
    let none : records_in lists.contents ≡ [] =
    ap records_in contents.added_is
    ∙ none_append contents.listed contents.last (items_apart keys from.block [] contents.whole.items contents.listed contents.piece contents.lists)
    (pieces_apart Stream refl contents.last contents.last_is.1) in
    ap records_in lists.added_is
    ∙ (records_append lists.contents (addition Record one.text lists.put ∷ []) ∙ ap (λ (l : List (List ℕ)). l ++ one.text ∷ []) none)

-- A record is tagged with its salt.
abbrev IsTagged : Keys → TaggedRecord → Type 0
IsTagged keys one = (archive : ArchiveText) × (one.text ≡ archive_text keys one.salt archive)

-- The records among these are those, and each is tagged.
abbrev HasRecords : Keys → List TaggedRecord → List Addition → Type 0
HasRecords keys records added =
    (records_in added ≡ map (λ (one : TaggedRecord). one.text) records) × AllByRecursion (IsTagged keys) records

tagged_both : (keys : Keys) (some more : List TaggedRecord) → AllByRecursion (IsTagged keys) some → AllByRecursion (IsTagged keys) more
    → AllByRecursion (IsTagged keys) (some ++ more)
tagged_both keys [] more p q = q
tagged_both keys (one ∷ some) more p q = (p.0, tagged_both keys some more p.1 q)

name_records : (there : Files) (from : Origin) (keys : Keys) (accepted : ManifestText) (before : List (List ℕ)) (name : List ℕ)
    (records : List TaggedRecord) (added : List Addition) → from.files ≡ Some there → ListsName from keys accepted before name records added
    → HasRecords keys records added
name_records there from keys accepted before name records added told (inl none) = (
  ap records_in none.1.1 ∙ sym (ap (map (λ (one : TaggedRecord). one.text)) none.1.0),
  subst (AllByRecursion (IsTagged keys)) (sym none.1.0) tt,
)
name_records there from keys accepted before name records added told (inr new) =
    let one = new.1.0 in
    let lists : ListsArchive there from keys name one added =
    subst (λ (o : Option Files). IfSome o (λ files. ListsArchive files from keys name one added)) told new.1.1.1 in (
      archive_records there from keys name one added lists ∙ sym (ap (map (λ (r : TaggedRecord). r.text)) new.1.1.0),
      subst (AllByRecursion (IsTagged keys)) (sym new.1.1.0) ((lists.copy.copied, lists.copy.text_is), tt),
    )

-- of names there are these
pub names_records : (there : Files) (from : Origin) (keys : Keys) (accepted : ManifestText) (before names : List (List ℕ))
    (records : List TaggedRecord) (added : List Addition) → from.files ≡ Some there → ListsNames from keys accepted before names records added
    → HasRecords keys records added
names_records there from keys accepted before [] records added told none = (
  ap records_in none.1 ∙ sym (ap (map (λ (one : TaggedRecord). one.text)) none.0),
  subst (AllByRecursion (IsTagged keys)) (sym none.0) tt,
)
names_records there from keys accepted before (name ∷ names) records added told lists =
    let text : TaggedRecord → List ℕ = λ one. one.text in
    let own = lists.0 in
    let others = lists.1.0 in
    let all = lists.1.1.1 in
    let first = name_records there from keys accepted before name own all.0 told all.1.1.1.0 in
    let rest = names_records there from keys accepted (before ++ name ∷ []) names others all.1.0 told all.1.1.1.1 in (
      ap records_in all.1.1.0
          ∙ (records_append all.0 all.1.0
          ∙ (ap (λ (l : List (List ℕ)). l ++ records_in all.1.0) first.0
          ∙ (ap (λ (l : List (List ℕ)). map text own ++ l) rest.0
          ∙ (sym (map-append text own others) ∙ sym (ap (map text) lists.1.1.0))))),
      subst (AllByRecursion (IsTagged keys)) (sym lists.1.1.0) (tagged_both keys own others first.1 rest.1),
    )

-- ---- what was tagged

-- nothing was
pub tags_none : (keys : Keys) (added : List Addition) (before now : Option (List ℕ)) → records_in added ≡ [] → now ≡ before
    → TagsDrawn keys added before now
tags_none keys added before now none same =
    record { bytes = []; drawn = same ∙ drawn_none before; tagged = subst (AreTaggedBy keys []) (sym none) tt }

-- behind pieces
pub tags_behind : (keys : Keys) (some more : List Addition) (before now : Option (List ℕ)) → records_in some ≡ [] → TagsDrawn keys more before now
    → TagsDrawn keys (some ++ more) before now
tags_behind keys some more before now none p =
    record {
      bytes = p.bytes;
      drawn = p.drawn;
      tagged = subst (AreTaggedBy keys p.bytes) (sym (records_append some more ∙ ap (λ (l : List (List ℕ)). l ++ records_in more) none)) p.tagged;
    }

-- one record
pub tags_one : (keys : Keys) (archive : ArchiveText) (salt text : List ℕ) (put : Bool) (before now : Option (List ℕ)) → Draws salt before now
    → text ≡ archive_text keys salt archive → TagsDrawn keys (addition Record text put ∷ []) before now
tags_one keys archive salt text put before now drew is =
    record { bytes = salt; drawn = drew.1; tagged = (salt, (drew.0, ([], (sym (append-nil salt), (archive, (is, tt)))))) }

-- more behind records whose salts were drawn
tagged_behind : (keys : Keys) (records : List TaggedRecord) (bytes : List ℕ) (texts : List (List ℕ)) → AllByRecursion HasSalts records
    → AllByRecursion (IsTagged keys) records → AreTaggedBy keys bytes texts
    → AreTaggedBy keys (salts_of records ++ bytes) (map (λ (one : TaggedRecord). one.text) records ++ texts)
tagged_behind keys [] bytes texts sizes tagged p = p
tagged_behind keys (one ∷ records) bytes texts sizes tagged p =
    let rest = (one.manifest_salt ++ salts_of records) ++ bytes in
    let behind = salts_of records ++ bytes in
    let split : rest ≡ one.manifest_salt ++ behind = append_assoc one.manifest_salt (salts_of records) bytes in
    let dropped : drop 64 rest ≡ behind = ap (λ (n : ℕ). drop n rest) (sym sizes.0.1) ∙ front_rest rest one.manifest_salt behind split in (
      one.salt,
      (
        sizes.0.0,
        (
          rest,
          (
            append_assoc one.salt (one.manifest_salt ++ salts_of records) bytes,
            (
              tagged.0.0,
              (
                tagged.0.1,
                subst (λ (b : List ℕ). AreTaggedBy keys b (map (λ (r : TaggedRecord). r.text) records ++ texts)) (sym dropped)
                    (tagged_behind keys records bytes texts sizes.1 tagged.1 p),
              ),
            ),
          ),
        ),
      ),
    )

pub tags_then : (keys : Keys) (records : List TaggedRecord) (some more : List Addition) (before middle now : Option (List ℕ)) → HasRecords keys records some
    → DrawsSalts records before middle → TagsDrawn keys more middle now → TagsDrawn keys (some ++ more) before now
tags_then keys records some more before middle now has drew p =
    record {
      bytes = salts_of records ++ p.bytes;
      drawn = drawn_both before middle now (salts_of records) p.bytes drew.drawn p.drawn;
      tagged = subst (AreTaggedBy keys (salts_of records ++ p.bytes))
          (sym (records_append some more ∙ ap (λ (l : List (List ℕ)). l ++ records_in more) has.0))
          (tagged_behind keys records p.bytes (records_in more) drew.sizes has.1 p.tagged);
    }

-- ---- an archive on its way

-- a step adds no record
pub begun_apart : (told : Option Told) (source : RepoState) (keys : Keys) (copy : Copy) (more : List Addition) → BeginsMore told source keys copy more
    → records_in more ≡ []
begun_apart told source keys copy more (inl none) = ap records_in none
begun_apart told source keys copy more (inr p) = by p.begun where
  by : (AreOf Content more × BeginsContent told source copy.block p.item.chunks (contents_in more)) ⊎ SpellsOn told source keys copy p.item more
      → records_in more ≡ []
  by (inl of) = pieces_apart Content refl more of.0
  by (inr q) =
      ap records_in q.pieces
      ∙ none_append q.contents q.spelled (pieces_apart Content refl q.contents q.of_content) (pieces_apart Stream refl q.spelled q.of_stream)

-- what holds anyway
anyway : {A B : Type 0} (o : Option A) (f : Option B) (X : Type 0) → X → IfSome o (λ _. IfSome f (λ _. X))
anyway {A} {B} None f X x = tt
anyway {A} {B} (Some a) None X x = tt
anyway {A} {B} (Some a) (Some b) X x = x

-- nor did those that came before
pub work_apart : (told : Option Told) (source : RepoState) (heard : Option Told) (store : Store) (met : Seen) (named : ArchiveRef) (options : Options)
    (added : List Addition) (work : Work) → WorkFits (seen told source) heard store met named options added work
    → IfSome heard (λ _. IfSome (origin_of told source options).files (λ _. records_in added ≡ []))
work_apart told source heard store met named options added Waiting none =
    anyway heard (origin_of told source options).files (records_in added ≡ []) (ap records_in none)
work_apart told source heard store met named options added (Copying copy) fits =
    IfSome_then heard fits.copied.1 (λ d known. IfSome_then (origin_of told source options).files known
    (λ there so. items_apart (repo_view store.repo).keys copy.block [] so.wholes added copy.stream.cutter.piece so.writes.lists))
work_apart told source heard store met named options added (Comparing comparison) fits =
    anyway heard (origin_of told source options).files (records_in added ≡ []) (ap records_in fits.1)

-- ---- by what came of it

-- What a fault says that a live chunk may be: it is none, or what was added is tagged from what was drawn.
abbrev pub TagsOr : Keys → List Addition → Option (List ℕ) → Option (List ℕ) → CarryFault → Type 0
TagsOr keys added before now fault = IsNoChunk fault ⊎ TagsDrawn keys added before now

pub match_err : {T : Type 0} (A : T → Type 0) (B : CarryFault → Type 0) (result : Result T CarryFault) (fault : CarryFault)
    → IsErrAnd result (λ other. other ≡ fault) → B fault → MatchResult result A B
match_err {T} A B (Ok value) fault is b = absurd is
match_err {T} A B (Err other) fault is b = subst B (sym is) b

-- where no archive was named, and nothing added
pub unnamed_all : (X : Type 0) (keys : Keys) (drawn : Option (List ℕ)) (result : Result Turn CarryFault) → result ≢ Ok Named
    → MatchResult result (λ turn. turn ≡ Named → X) (TagsOr keys [] drawn drawn)
unnamed_all X keys drawn (Ok turn) apart = λ is. absurd (apart (ap Ok is))
unnamed_all X keys drawn (Err fault) apart = inr (tags_none keys [] drawn drawn refl refl)

-- behind the last pieces of a stream
pub tags_last : (keys : Keys) (pieces : List (List ℕ)) (last more : List Addition) (before now : Option (List ℕ)) (fault : CarryFault)
    → ArePieces Stream pieces last → TagsOr keys more before now fault → TagsOr keys (last ++ more) before now fault
tags_last keys pieces last more before now fault are (inl none) = inl none
tags_last keys pieces last more before now fault are (inr tags) = inr (tags_behind keys last more before now (pieces_apart Stream refl last are.1) tags)

-- under the same keys
pub tags_as : (keys other : Keys) (more : List Addition) (before now : Option (List ℕ)) (fault : CarryFault) → other ≡ keys
    → TagsOr other more before now fault → TagsOr keys more before now fault
tags_as keys other more before now fault same p = subst (λ (k : Keys). TagsOr k more before now fault) same p
