-- Where a transfer is done, no record was too large, no item too long, and no manifest on the way too large.
use Rattle.std.proofs.Common.{◌≡◌, ◌<◌, ℕ, codes, List, map, length, ◌∷◌, ◌++◌, Option, Some, sym, ◌∙◌, ap, subst, arith, IfSome}
use Rattle.ferry_base.specs.Limits.{content_limit}
use Rattle.ferry_blob.specs.Blob.{content_id}
use Rattle.ferry_carry.proofs.LengthLemmas.{alike_here}
use Rattle.ferry_carry.proofs.SmallLemmas.{front_small, whole_short}
use Rattle.ferry_carry.specs.Accepting.{AreNamedNext, AreNextOf, HasLargeNext}
use Rattle.ferry_carry.specs.Copied.{IsCopyOf, stream_pieces}
use Rattle.ferry_carry.specs.Naming.{copied_archive}
use Rattle.ferry_carry.specs.Refusals.{HasLargeRecord, HasLongItem}
use Rattle.ferry_disk.specs.Act.{History, files_now}
use Rattle.ferry_disk.specs.Files.{Files}
use Rattle.ferry_mac.specs.declared.keys.Keys.{Keys}
use Rattle.ferry_manifest.specs.Record.Text.{ArchiveText}
use Rattle.ferry_manifest.specs.Record.Writing.{archive_text, record_pairs, with_params}
use Rattle.ferry_manifest.specs.Tag.{archive_info}
use Rattle.ferry_manifest.specs.Tagged.{tagged_text}
use Rattle.ferry_manifest.specs.Values.{pairs_of_table, raws}
use Rattle.ferry_msgpack.specs.Tree.{Tree, array, put}
use Rattle.ferry_piece.specs.Gather.{IsAmong}
use Rattle.ferry_repo.proofs.LawLemmas.{one_repo}
use Rattle.ferry_repo.proofs.WholeLemmas.{one_whole}
use Rattle.ferry_repo.specs.Opening.{OpensFilesTo, RepoState}
use Rattle.ferry_repo.specs.Whole.{IsWhole, WholeArchive}
use Rattle.ferry_store.proofs.StandingLemmas.{opened_unlocks}
use Rattle.ferry_store.specs.Standing.{UnlocksSettings}
use Rattle.ferry_run_transfer.proofs.ReadyLemmas.{one_keys}
use Rattle.ferry_run_transfer.specs.Rerun.{LacksName}
use Rattle.ferry_run_transfer.specs.Transfer.{HasTransferred, IsCutThere, IsChosen, AreCutThere, ListsChosen, Request, chosen_of, from_source}
use Rattle.ferry_run_transfer.specs.TransferCauses.{HasLargeTarget}

-- a record's text is that of its fields, its ids and its parameters
text_same : (keys : Keys) (salt : List ℕ) (a b : ArchiveText) → a.fields ≡ b.fields → a.items ≡ b.items → a.params ≡ b.params
    → archive_text keys salt a ≡ archive_text keys salt b
unfolding archive_text record_pairs
text_same keys salt a b fields items params =
    ap (λ (l : List (List ℕ)). tagged_text archive_info keys salt (put (codes "items") (array (raws l)) (with_params a.params (pairs_of_table a.fields))))
    items
    ∙ (ap (λ (o : Option Tree). tagged_text archive_info keys salt (put (codes "items") (array (raws b.items)) (with_params o (pairs_of_table a.fields))))
    params
    ∙ ap (λ (t : Tree). tagged_text archive_info keys salt (put (codes "items") (array (raws b.items)) (with_params b.params (pairs_of_table t)))) fields)

-- a record that came isn't too large
record_small : (keys : Keys) (block : ℕ) (whole : WholeArchive) (salt text : List ℕ) (archive : ArchiveText)
    → IsCopyOf keys block whole.items whole.fields salt text → archive.fields ≡ whole.fields
    → ((other : List ℕ) → length other ≡ 64 → content_limit < length (archive_text keys other
    (copied_archive archive block (map (content_id keys) (stream_pieces keys block whole.items))))) → ⊥
record_small keys block whole salt text archive copy fields large =
    let other = copied_archive archive block (map (content_id keys) (stream_pieces keys block whole.items)) in
    let same : text ≡ archive_text keys salt other =
    copy.text_is ∙ text_same keys salt copy.copied other (copy.same ∙ sym fields) copy.items copy.params in
    let size : length text ≡ length (archive_text keys salt other) = ap (λ (t : List ℕ). length t) same in
    let more = large salt copy.salt_size in
    let few = copy.small in
    omega (arith, size, more, few)

-- ---- what came

-- an archive of a chosen name that the target lacked
pub record Came (request : Request) (source : Files) (from : RepoState) (keys : Keys) (name : List ℕ) : Type 0 where
  pub whole : WholeArchive
  pub is : IsWhole source from.log from.keys from.manifest.archives name whole
  pub salt : List ℕ
  pub text : List ℕ
  pub copy : IsCopyOf keys request.block whole.items whole.fields salt text

all_came : (request : Request) (source : Files) (from : RepoState) (drawn drawn_now : Option (List ℕ)) (before now : History) (name : List ℕ)
    → request.source ≡ Some source → OpensFilesTo source request.secrets.source from → (did : HasTransferred request drawn drawn_now before now)
    → IsAmong (chosen_of request.names from.manifest) name → LacksName did.repo.manifest name → Came request source from did.repo.keys name
all_came request source from drawn drawn_now before now name told opens did among lacks =
    let keeps = did.keeps in
    let chosen : IsChosen request keeps.done source = subst (λ (o : Option Files). IfSome o (IsChosen request keeps.done)) told did.all in
    let one = one_repo source request.secrets.source chosen.0 from chosen.1.0 opens in
    let listed : IsAmong keeps.done name =
    subst (λ (l : List (List ℕ)). IsAmong l name) (sym (chosen.1.1 ∙ ap (λ (r : RepoState). chosen_of request.names r.manifest) one)) among in
    let cut : AreCutThere request did.repo.manifest keeps.repo keeps.done source =
    subst (λ (o : Option Files). IfSome o (AreCutThere request did.repo.manifest keeps.repo keeps.done)) told keeps.cut in
    let there : IsCutThere request source keeps.repo name = cut name listed lacks in
    let w = there.whole_there in
    let keys : keeps.repo.keys ≡ did.repo.keys =
    sym (one_keys request.secrets.target (files_now now).config did.repo keeps.repo
    (subst (λ (c : Option (List ℕ)). UnlocksSettings request.secrets.target c did.repo.config did.repo.keys) (sym keeps.config)
    (opened_unlocks (files_now before) request.secrets.target did.repo did.opens))
    (opened_unlocks (files_now now) request.secrets.target keeps.repo keeps.opens)) in
    record {
      whole = there.whole;
      is = subst (λ (r : RepoState). IsWhole source r.log r.keys r.manifest.archives name there.whole)
          (one_repo source request.secrets.source w.repo from w.opens opens) w.is;
      salt = there.salt;
      text = there.text;
      copy = subst (λ (k : Keys). IsCopyOf k request.block there.whole.items there.whole.fields there.salt there.text) keys there.copy;
    }

-- of no chosen name that the target lacked is the record too large
pub none_large : (request : Request) (source : Files) (from : RepoState) (drawn drawn_now : Option (List ℕ)) (before now : History) (name : List ℕ)
    → request.source ≡ Some source → OpensFilesTo source request.secrets.source from → (did : HasTransferred request drawn drawn_now before now)
    → IsAmong (chosen_of request.names from.manifest) name → LacksName did.repo.manifest name
    → HasLargeRecord source (from_source request source from) did.repo.keys name → ⊥
none_large request source from drawn drawn_now before now name told opens did among lacks large =
    let came = all_came request source from drawn drawn_now before now name told opens did among lacks in
    let same : came.whole ≡ large.whole = one_whole source from.log from.keys from.manifest.archives name came.whole large.whole came.is large.source in
    let copy : IsCopyOf did.repo.keys request.block large.whole.items large.whole.fields came.salt came.text =
    subst (λ (v : WholeArchive). IsCopyOf did.repo.keys request.block v.items v.fields came.salt came.text) same came.copy in
    record_small did.repo.keys request.block large.whole came.salt came.text large.archive copy large.fields large.large

-- nor an item too long
pub none_long : (request : Request) (source : Files) (from : RepoState) (drawn drawn_now : Option (List ℕ)) (before now : History) (name : List ℕ)
    → request.source ≡ Some source → OpensFilesTo source request.secrets.source from → (did : HasTransferred request drawn drawn_now before now)
    → IsAmong (chosen_of request.names from.manifest) name → LacksName did.repo.manifest name
    → HasLongItem source (from_source request source from) name → ⊥
none_long request source from drawn drawn_now before now name told opens did among lacks long =
    let came = all_came request source from drawn drawn_now before now name told opens did among lacks in
    whole_short source (from_source request source from) name came.whole came.copy.some came.is came.copy.few long

-- and with none of them the manifest
pub none_limited : (request : Request) (source : Files) (drawn drawn_now : Option (List ℕ)) (before now : History) (lines : List (List ℕ))
    → request.source ≡ Some source → HasTransferred request drawn drawn_now before now → HasLargeTarget request source (files_now before) lines → ⊥
none_limited request source drawn drawn_now before now lines told did large =
    let given = request.timestamp in
    let limits = large.limits in
    let lists : ListsChosen request did.repo did.keeps.repo.manifest did.records did.keeps.begun source =
    subst (λ (o : Option Files). IfSome o (ListsChosen request did.repo did.keeps.repo.manifest did.records did.keeps.begun)) told did.lists in
    let from = lists.0 in
    let same : large.repo ≡ from = one_repo source request.secrets.source large.repo from large.opens lists.1.0 in
    let target : large.target ≡ did.repo = one_repo (files_now before) request.secrets.target large.target did.repo large.target_opens did.opens in
    let split : chosen_of request.names from.manifest ≡ limits.done ++ limits.name ∷ limits.rest =
    sym (ap (λ (r : RepoState). chosen_of request.names r.manifest) same) ∙ limits.split in
    let behind : AreNextOf given from.manifest did.repo.manifest limits.done limits.ids limits.middle =
    subst (λ (r : RepoState). AreNextOf given from.manifest r.manifest limits.done limits.ids limits.middle) target
    (subst (λ (r : RepoState). AreNextOf given r.manifest large.target.manifest limits.done limits.ids limits.middle) same limits.behind) in
    let big : HasLargeNext given from.manifest did.repo.keys limits.middle limits.name =
    subst (λ (r : RepoState). HasLargeNext given from.manifest r.keys limits.middle limits.name) target
    (subst (λ (r : RepoState). HasLargeNext given r.manifest large.target.keys limits.middle limits.name) same limits.large) in
    front_small given from.manifest did.repo.keys did.repo.manifest did.repo.manifest limits.done limits.name limits.rest limits.ids did.records limits.middle
    did.keeps.repo.manifest (alike_here did.repo.manifest) limits.sizes did.drew.sizes behind
    (subst (λ (names : List (List ℕ)). AreNamedNext given from.manifest did.repo.keys did.repo.manifest names did.records did.keeps.repo.manifest) split
    lists.1.1.1) big
