-- Lemmas on specs/Tagging.antt: what is left where each record had a tag already.
use Rattle.std.proofs.Common.{◌≡◌, inl, inr, ℕ, ◌<◌, true, false, List, [], ◌∷◌, Option}
use Rattle.std.specs.List.{AllByRecursion}
use Rattle.ferry_mac.specs.declared.keys.Keys.{Keys}
use Rattle.ferry_piece.specs.Gather.{IsAmong}
use Rattle.std.proofs.Common.{refl, sym, ◌∙◌, ap, subst, arith}
use Rattle.ferry_disk.specs.Files.{Files}
use Rattle.ferry_manifest.specs.Record.Text.{ArchiveText}
use Rattle.ferry_repo.proofs.ContentLemmas.{one_record}
use Rattle.ferry_repo.specs.Opening.{RepoState}
use Rattle.ferry_repo.specs.declared.secret.Secret.{Secret}
use Rattle.ferry_refs.proofs.OldLemmas.{all_tagged, none_occur, same_olds}
use Rattle.ferry_refs.specs.Refs.{occurrences}
use Rattle.ferry_refs.specs.Tagging.{AreOld, AreRenewals, DrawsTags, IsFreed, IsUntagged, KeepsArchives, OldRecord, tagged_manifest}

-- of no records there are no texts
no_texts : (keys : Keys) (olds : List OldRecord) (texts : List (List ℕ)) → olds ≡ [] → AreRenewals keys olds texts → texts ≡ []
no_texts keys [] [] is all = refl
no_texts keys [] (text ∷ texts) is all = absurd all
no_texts keys (old ∷ olds) texts is all = absurd (let no : ⊥ = cc in no)

-- where each record has a tag already, the archives are left as they are behind the tagging, too, and nothing is to be drawn
pub needless_left : (secret : Secret) (start image : Files) (repo : RepoState) (time : List ℕ) (drawn drawn_now : Option (List ℕ))
    → AreOld start repo repo.manifest.archives [] → drawn_now ≡ drawn → KeepsArchives secret start repo time false image
    → (left : KeepsArchives secret start repo time true image) × DrawsTags repo.keys left.olds left.texts left.renewals drawn drawn_now
needless_left secret start image repo time drawn drawn_now none undrawn keeps = (
  record {
    repo = keeps.repo;
    opens = keeps.opens;
    config = keeps.config;
    names = keeps.names;
    olds = [];
    are_tagged = none;
    texts = [];
    renewals = tt;
    manifest = keeps.manifest ∙ ap (λ (l : List OldRecord). tagged_manifest repo.keys repo.manifest l keeps.texts time) keeps.are_tagged;
    wholes = λ scope apart all within. keeps.wholes scope apart (none_among scope) within;
    untagged = λ scope apart all within name. (
      λ u. absurd (no_untagged name ((keeps.untagged scope apart (none_among scope) within name).0 u).0),
      λ both. absurd (let no : true ≡ false = both.1 in let l : ⊥ = cc in l),
    );
    kept = λ id blob chunk has still. keeps.kept id blob chunk has (λ no. absurd (let l : ⊥ = cc in l));
    gone = λ id blob chunk _ freed has. no_freed id freed;
    only = λ id blob chunk has. elim (keeps.only id blob chunk has) [
      | inl was ↦ inl was
      | inr of ↦ let no : false ≡ true = of.0 in absurd (let l : ⊥ = cc in l)
    ];
  },
  undrawn,
)
  where
    none_among : (scope : List (List ℕ)) → AllByRecursion (IsAmong scope) keeps.texts
    none_among scope = subst (AllByRecursion (IsAmong scope)) (sym (no_texts repo.keys keeps.olds keeps.texts keeps.are_tagged keeps.renewals)) tt

    no_untagged : (name : List ℕ) → IsUntagged start repo name → ⊥
    no_untagged name u =
        let all = all_tagged start repo repo.manifest.archives [] name u.named refl none u.named_is in
        let same = one_record start repo.log repo.keys u.named.id u.archive all.0 u.record_is all.1.0 in
        let no : false ≡ true = sym u.untagged ∙ (ap (λ (a : ArchiveText). a.tagged) same ∙ all.1.1) in
        cc

    no_freed : (id : List ℕ) → IsFreed start repo id → ⊥
    no_freed id freed =
        let ids = same_olds start repo repo.manifest.archives [] freed.reads none freed.are_read in
        let some : 0 < occurrences id [] = subst (λ (l : List (List ℕ)). 0 < occurrences id l) (sym ids) freed.old in
        let zero = none_occur id in
        absurd (omega (arith, some, zero))
