-- Lemmas on specs/Tagging.antt and specs/TagSteps.antt: texts that are added to a store, one after another.
use Rattle.std.proofs.Common.{◌≡◌, ◌≢◌, ◌⊎◌, inl, inr, ℕ, Bool, true, false, List, [], ◌∷◌, ◌++◌, append_assoc, append-nil}
use Rattle.std.proofs.Common.{Option, Some, IsSome, IsTrue, refl, sym, ◌∙◌, ap, subst}
use Rattle.std.specs.List.{AllByRecursion}
use Rattle.ferry_base.specs.Limits.{zero_id}
use Rattle.ferry_blob.specs.Blob.{OpensTo, content_id}
use Rattle.ferry_check.specs.Verify.{IsChunk}
use Rattle.ferry_disk.specs.Act.{History, files_now}
use Rattle.ferry_log.proofs.FitsLemmas.{place_learnt, place_other}
use Rattle.ferry_log.specs.State.{LogState, place_in, with_learnt}
use Rattle.ferry_log.specs.declared.place.Place.{Place}
use Rattle.ferry_mac.specs.declared.keys.Keys.{Keys}
use Rattle.ferry_piece.proofs.AmongLemmas.{among_behind, among_front}
use Rattle.ferry_piece.proofs.AddedLemmas.{AddedSo, added_rest}
use Rattle.ferry_repo.specs.Opening.{RepoState, repo_view}
use Rattle.ferry_segment.specs.Entry.{LogEntry}
use Rattle.ferry_store.proofs.LiveLemmas.{keeps_put, keeps_same, keeps_then, live_other, live_put, same_or}
use Rattle.ferry_store.proofs.StandingLemmas.{entries_put, missing_unlive}
use Rattle.ferry_store.specs.Adding.{Adds, entry_of, id_under}
use Rattle.ferry_store.specs.Content.{Learns, blob_for, with_added}
use Rattle.ferry_store.specs.Standing.{Keeps, entries_of, live_in}
use Rattle.ferry_store.specs.State.{Written, with_entry}
use Rattle.ferry_store.specs.Store.{StoreFits}
use Rattle.ferry_store.specs.declared.content.Added.{Added}
use Rattle.ferry_store.specs.declared.store.Store.{Store}
use Rattle.ferry_write.proofs.StandLemmas.{all-append}
use Rattle.ferry_refs.specs.TagSteps.{AddsTexts, HasTexts, KeepsRepo}
use Rattle.ferry_refs.specs.Tagging.{BringsTexts, IsLiveText, IsOfText, with_puts}

-- ---- what stays

-- where nothing was put
puts_none : (written : Written) → written ≡ with_puts written []
puts_none written = ap (λ (pending : List LogEntry). record written { pending = pending }) (sym (append-nil written.pending))

puts_both : (written : Written) (some more : List LogEntry) → with_puts (with_puts written some) more ≡ with_puts written (some ++ more)
puts_both written some more =
    ap (λ (pending : List LogEntry). record written { pending = pending }) (append_assoc written.pending some more)

brings_none : (keys : Keys) (written : Written) → BringsTexts keys [] written written
brings_none keys written = record { keeps = keeps_same (entries_of written); only = λ id blob live. inl live; each = tt }

-- a text of some is one of more
text_front : (keys : Keys) (some more : List (List ℕ)) (id blob : List ℕ) → IsOfText keys some id blob → IsOfText keys (some ++ more) id blob
text_front keys some more id blob of =
    record { text = of.text; among = among_front some more of.text of.among; id_is = of.id_is; chunk = of.chunk; opens = of.opens }

text_behind : (keys : Keys) (some more : List (List ℕ)) (id blob : List ℕ) → IsOfText keys more id blob → IsOfText keys (some ++ more) id blob
text_behind keys some more id blob of =
    record { text = of.text; among = among_behind some more of.text of.among; id_is = of.id_is; chunk = of.chunk; opens = of.opens }

-- What is said of a text whose id isn't the manifest's.
abbrev IsThereText : Keys → List LogEntry → List ℕ → Type 0
IsThereText keys entries text = content_id keys text ≢ zero_id → IsLiveText keys entries text

there_kept : (keys : Keys) (before after : List LogEntry) (text : List ℕ) → Keeps before after → IsThereText keys before text
    → IsThereText keys after text
there_kept keys before after text keeps there chunk =
    let live = there chunk in
    record { blob = live.blob; live = keeps (content_id keys text) live.blob live.live; content = live.content; opens = live.opens }

all_kept : (keys : Keys) (before after : List LogEntry) (texts : List (List ℕ)) → Keeps before after → AllByRecursion (IsThereText keys before) texts
    → AllByRecursion (IsThereText keys after) texts
all_kept keys before after [] keeps all = tt
all_kept keys before after (text ∷ texts) keeps all =
    (there_kept keys before after text keeps all.0, all_kept keys before after texts keeps all.1)

-- texts that are added behind others
pub brings_then : (keys : Keys) (some more : List (List ℕ)) (a b c : Written) → BringsTexts keys some a b → BringsTexts keys more b c
    → BringsTexts keys (some ++ more) a c
brings_then keys some more a b c first second = record {
  keeps = keeps_then (entries_of a) (entries_of b) (entries_of c) first.keeps second.keeps;
  only = λ id blob live. elim (second.only id blob live) [
    | inl there ↦ elim (first.only id blob there) [
      | inl was ↦ inl was
      | inr of ↦ inr (text_front keys some more id blob of)
    ]
    | inr of ↦ inr (text_behind keys some more id blob of)
  ];
  each = all-append (IsThereText keys (entries_of c)) some more (all_kept keys (entries_of b) (entries_of c) some second.keeps first.each) second.each;
}

-- ---- one text

module _ (counts : Bool) (store now : Store) (text : List ℕ) (added : Added) (h g : History) (fits : StoreFits counts store h)
    (fits_now : StoreFits counts now g) (so : AddedSo store text now added) where
  abbrev keys : Keys
  keys = (repo_view store.repo).keys

  abbrev id : List ℕ
  id = id_under store text

  abbrev blob : List ℕ
  blob = blob_for (repo_view store.repo) store.counter text

  -- where it was put
  put_brings : IsTrue added.new → (written_now : Written) → entries_of written_now ≡ entries_of fits.written ++ entry_of store text ∷ []
      → BringsTexts keys (text ∷ []) fits.written written_now
  put_brings put written_now is =
      let fresh = so.new.0 put in
      let unlive = missing_unlive (files_now h) (repo_view store.repo).log (entries_of fits.written) id fresh.0 fresh.1 fits.holds in
      let live : live_in id (entries_of written_now) ≡ Some blob = ap (live_in id) is ∙ live_put id blob (entries_of fits.written) in
      record {
        keeps = subst (Keeps (entries_of fits.written)) (sym is) (keeps_put id blob (entries_of fits.written) unlive);
        only = λ other found there. elim (same_or id other) [
          | inl same ↦
              let both : Some found ≡ Some blob = sym there ∙ (ap (λ (i : List ℕ). live_in i (entries_of written_now)) same ∙ live) in
              let blobs : found ≡ blob = cc in
              inr (record {
                text = text;
                among = (0, refl);
                id_is = same;
                chunk = λ zero. fresh.0 (sym same ∙ zero);
                opens = subst (λ (i : List ℕ). OpensTo keys i found text) (sym same)
                    (subst (λ (b : List ℕ). OpensTo keys id b text) (sym blobs) (so.opens put));
              })
          | inr differ ↦ inl (sym (live_other id blob other (entries_of fits.written) differ) ∙ (ap (live_in other) (sym is) ∙ there))
        ];
        each = (λ chunk. record { blob = blob; live = live; content = text; opens = so.opens put }, tt);
      }

  -- where it wasn't
  old_brings : fits_now.written ≡ fits.written → BringsTexts keys (text ∷ []) fits.written fits_now.written
  old_brings is = record {
    keeps = subst (λ (w : Written). Keeps (entries_of fits.written) (entries_of w)) (sym is) (keeps_same (entries_of fits.written));
    only = λ other found live. inl (ap (λ (w : Written). live_in other (entries_of w)) (sym is) ∙ live);
    each = (
      λ chunk.
          let there = fits_now.there id chunk so.known in
          let object = there.1.object in
          record {
            blob = object.blob;
            live = (fits_now.holds id object.blob chunk).0 object.has;
            content = there.0;
            opens = subst (λ (k : Keys). OpensTo k id object.blob there.0) (added_rest store now text added so).keys object.opens;
          },
      tt,
    );
  }

  has_text : (new : Bool) → new ≡ added.new → fits_now.written ≡ with_added new fits.written (entry_of store text)
      → HasTexts counts keys (text ∷ []) fits.written now g
  has_text true is e = record {
    fits = fits_now;
    puts = entry_of store text ∷ [];
    written_is = e;
    brings = put_brings (sym is) (with_entry fits.written (entry_of store text)) (entries_put fits.written (entry_of store text));
  }
  has_text false is e =
      let last = e ∙ puts_none fits.written in
      record {
        fits = fits_now;
        puts = [];
        written_is = last;
        brings = subst (BringsTexts keys (text ∷ []) fits.written) last (old_brings e);
      }

-- a text that was added
pub text_adds : (store now : Store) (text : List ℕ) (added : Added) (h g : History) → AddedSo store text now added → Adds store text now added h g
    → AddsTexts (text ∷ []) store now h g
text_adds store now text added h g so adds counts fits =
    let end = adds counts fits in
    has_text counts store now text added h g fits end.0 so added.new refl end.1

-- ---- several texts

pub texts_none : (store : Store) (h : History) → AddsTexts [] store store h h
texts_none store h counts fits = record {
  fits = fits;
  puts = [];
  written_is = puts_none fits.written;
  brings = subst (BringsTexts (repo_view store.repo).keys [] fits.written) (puts_none fits.written) (brings_none (repo_view store.repo).keys fits.written);
}

pub texts_then : (store middle now : Store) (some more : List (List ℕ)) (h g i : History) → (repo_view middle.repo).keys ≡ (repo_view store.repo).keys
    → AddsTexts some store middle h g → AddsTexts more middle now g i → AddsTexts (some ++ more) store now h i
texts_then store middle now some more h g i same first_adds more_adds counts fits =
    let keys = (repo_view store.repo).keys in
    let first = first_adds counts fits in
    let second = more_adds counts first.fits in
    let last = ap (λ (w : Written). with_puts w second.puts) first.written_is ∙ puts_both fits.written first.puts second.puts in
    let behind : BringsTexts keys more (with_puts fits.written first.puts) (with_puts (with_puts fits.written first.puts) second.puts) =
    subst (λ (k : Keys). BringsTexts k more (with_puts fits.written first.puts) (with_puts (with_puts fits.written first.puts) second.puts)) same
    (subst (λ (w : Written). BringsTexts (repo_view middle.repo).keys more w (with_puts w second.puts)) first.written_is second.brings) in
    record {
      fits = second.fits;
      puts = first.puts ++ second.puts;
      written_is = second.written_is ∙ last;
      brings = subst (BringsTexts keys (some ++ more) fits.written) (puts_both fits.written first.puts second.puts)
          (brings_then keys some more fits.written (with_puts fits.written first.puts) (with_puts (with_puts fits.written first.puts) second.puts)
          first.brings behind);
    }

-- ---- the repository

chunk_learnt : (log : LogState) (id : List ℕ) (place : Place) (other : List ℕ) → IsChunk log other → IsChunk (with_learnt log id place) other
chunk_learnt log id place other chunk = record { chunk = chunk.chunk; live = by (same_or id other) } where
  by : (other ≡ id) ⊎ (other ≢ id) → IsSome (place_in (with_learnt log id place) other)
  by (inl same) =
      subst (λ (i : List ℕ). IsSome (place_in (with_learnt log id place) i)) (sym same)
      (subst (λ (o : Option Place). IsSome o) (sym (place_learnt log id place)) refl)
  by (inr differ) = subst (λ (o : Option Place). IsSome o) (sym (place_other log id other place differ)) chunk.live

learns_repo : (repo : RepoState) (id : List ℕ) (new : Bool) (now : RepoState) → Learns repo id new now → KeepsRepo repo now
learns_repo repo id false now same = record {
  keys = ap (λ (r : RepoState). r.keys) same;
  config = ap (λ (r : RepoState). r.config) same;
  manifest = ap (λ (r : RepoState). r.manifest) same;
  chunks = λ other chunk. subst (λ (r : RepoState). IsChunk r.log other) (sym same) chunk;
}
learns_repo repo id true now learnt = record {
  keys = ap (λ (r : RepoState). r.keys) learnt.1;
  config = ap (λ (r : RepoState). r.config) learnt.1;
  manifest = ap (λ (r : RepoState). r.manifest) learnt.1;
  chunks = λ other chunk. subst (λ (r : RepoState). IsChunk r.log other) (sym learnt.1) (chunk_learnt repo.log id learnt.0 other chunk);
}

pub added_repo : (store now : Store) (added : Added) → Learns (repo_view store.repo) added.id added.new (repo_view now.repo)
    → KeepsRepo (repo_view store.repo) (repo_view now.repo)
added_repo store now added learns = learns_repo (repo_view store.repo) added.id added.new (repo_view now.repo) learns

pub repo_here : (repo : RepoState) → KeepsRepo repo repo
repo_here repo = record { keys = refl; config = refl; manifest = refl; chunks = λ id chunk. chunk }

pub repo_then : (a b c : RepoState) → KeepsRepo a b → KeepsRepo b c → KeepsRepo a c
repo_then a b c p q = record {
  keys = q.keys ∙ p.keys;
  config = q.config ∙ p.config;
  manifest = q.manifest ∙ p.manifest;
  chunks = λ id chunk. q.chunks id (p.chunks id chunk);
}
