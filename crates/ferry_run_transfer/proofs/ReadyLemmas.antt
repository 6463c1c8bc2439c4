-- Lemmas on `IsReadyFor` of specs/TransferCauses.antt: what a transfer asks it finds again in what it left, and a new repository has it.
use Rattle.std.proofs.Common.{◌≡◌, ◌≢◌, ◌⊎◌, inl, inr, ℕ, List, [], Option, Some, None}
use Rattle.std.proofs.Common.{Ok, refl, sym, ◌∙◌, ap, subst}
use Rattle.ferry_base.specs.Limits.{zero_id}
use Rattle.ferry_blob.specs.Blob.{OpensTo}
use Rattle.ferry_piece.specs.Gather.{IsAmong}
use Rattle.ferry_disk.specs.Files.{Files, file_at}
use Rattle.ferry_disk.specs.declared.name.Name.TheVariants.{Nonce as NonceFile}
use Rattle.ferry_repo.specs.Archives.{archive_named}
use Rattle.ferry_repo.specs.Objects.{HasBlob}
use Rattle.ferry_repo.specs.Opening.{OpensFilesTo, RepoState, UnlockedText}
use Rattle.ferry_repo.specs.Whole.{HasWhole, WholeArchive}
use Rattle.ferry_repo.specs.declared.secret.Secret.{Secret}
use Rattle.ferry_stops.specs.Counters.{SpellsNumber}
use Rattle.ferry_store.proofs.StandingLemmas.{opened_unlocks}
use Rattle.ferry_store.specs.New.{OpensNew}
use Rattle.ferry_store.specs.Standing.{UnlocksSettings}
use Rattle.ferry_run_transfer.proofs.RerunLemmas.{number_again}
use Rattle.ferry_run_transfer.specs.Rerun.{KeepsNonce}
use Rattle.ferry_store.specs.State.{HasNumber}
use Rattle.ferry_carry.specs.States.{Drawn}
use Rattle.ferry_run_transfer.specs.Transfer.{KeepsArchives, NoneCollide, Request, chosen_of}
use Rattle.ferry_run_transfer.specs.TransferCauses.{IsOfAdded, IsReadyFor}
use Rattle.ferry_run_transfer.proofs.DoneLemmas.{chosen_left}

-- ---- the rerun

-- a file `config` opens to one key
pub one_keys : (secret : Secret) (file : Option (List ℕ)) (a b : RepoState) → UnlocksSettings secret file a.config a.keys
    → UnlocksSettings secret file b.config b.keys → a.keys ≡ b.keys
one_keys secret file a b p q =
    let one : UnlockedText = record { config = a.config; text = record { iterations = p.iterations; key = p.key } } in
    let other : UnlockedText = record { config = b.config; text = record { iterations = q.iterations; key = q.key } } in
    let both : Ok one ≡ Ok other = sym p.unlocks ∙ q.unlocks in
    let same : one ≡ other = cc in
    p.keys_are ∙ (ap (λ (u : UnlockedText). u.text.key.keys) same ∙ sym q.keys_are)

-- what a transfer asks, it finds again in what it left, where each chunk opens that was live at the start and whose id is that of a content that is added
-- to what is left
pub ready_again : (request : Request) (drawn next : Drawn) (source start image : Files) (lines : List (List ℕ)) → request.source ≡ Some source
    → (ready : IsReadyFor request drawn source start) → (keeps : KeepsArchives request start ready.repo.manifest lines image)
    → NoneCollide request start keeps.begun → KeepsNonce start image
    → ((id blob : List ℕ) → id ≢ zero_id → IsOfAdded request next source image id → HasBlob start ready.repo.log id blob
    → (content : List ℕ) × OpensTo ready.repo.keys id blob content) → IsReadyFor request next source image
ready_again request drawn next source start image lines told ready keeps apart nonce opened = record {
  from = ready.from;
  source_opens = ready.source_opens;
  whole = ready.whole;
  repo = keeps.repo;
  opens = keeps.opens;
  text = counted.text;
  nonce = counted.nonce;
  number = counted.number;
  spelled = counted.spelled;
  live = live;
  chosen = λ name among. chosen_left request drawn source start image lines ready told keeps apart ready.from ready.source_opens name among;
} where
  counted : HasNumber image
  counted =
      number_again start image nonce (record { text = ready.text; nonce = ready.nonce; number = ready.number; spelled = ready.spelled })

  keys : ready.repo.keys ≡ keeps.repo.keys
  keys =
      one_keys request.secrets.target image.config ready.repo keeps.repo
      (subst (λ (c : Option (List ℕ)). UnlocksSettings request.secrets.target c ready.repo.config ready.repo.keys) (sym keeps.config)
      (opened_unlocks start request.secrets.target ready.repo ready.opens)) (opened_unlocks image request.secrets.target keeps.repo keeps.opens)

  opens_there : (id blob : List ℕ) → HasBlob start ready.repo.log id blob ⊎ ((content : List ℕ) × OpensTo ready.repo.keys id blob content)
      → id ≢ zero_id → IsOfAdded request next source image id → (content : List ℕ) × OpensTo keeps.repo.keys id blob content
  opens_there id blob (inl has) chunk added =
      let o = opened id blob chunk added has in (o.0, subst (λ k. OpensTo k id blob o.0) keys o.1)
  opens_there id blob (inr o) chunk added = (o.0, subst (λ k. OpensTo k id blob o.0) keys o.1)

  live : (id blob : List ℕ) → id ≢ zero_id → IsOfAdded request next source image id → HasBlob image keeps.repo.log id blob
      → (content : List ℕ) × OpensTo keeps.repo.keys id blob content
  live id blob chunk added has = opens_there id blob (keeps.opening ready.repo ready.opens id blob chunk has) chunk added

-- ---- an example

none_named : (name : List ℕ) → archive_named name [] ≡ None
unfolding archive_named
none_named name = refl

-- a new repository is ready for archives that are whole in the source
pub ready_first : (request : Request) (drawn : Drawn) (source start : Files) (from : RepoState) → OpensFilesTo source request.secrets.source from
    → ((name : List ℕ) → IsAmong (chosen_of request.names from.manifest) name → (whole : WholeArchive) × HasWhole source request.secrets.source name whole)
    → OpensNew request.secrets.target start → (text : List ℕ) (number : ℕ) → file_at start NonceFile ≡ Some text → SpellsNumber text number
    → IsReadyFor request drawn source start
ready_first request drawn source start from source_opens whole new text number nonce spelled = record {
  from = from;
  source_opens = source_opens;
  whole = whole;
  repo = new.repo;
  opens = new.opens;
  text = text;
  nonce = nonce;
  number = number;
  spelled = spelled;
  live = λ id blob chunk added has. absurd (chunk (new.alone id has.place has.placed));
  chosen = λ name among. inl (ap (archive_named name) new.no_archives ∙ none_named name);
}
