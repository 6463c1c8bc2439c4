-- Lemmas on specs/Wholes.antt: a whole archive reads to its end with all contents.
use Rattle.std.proofs.Common.{ℕ, List, [], ◌∷◌, Option, Some, None, unwrap_or, refl, sym, subst}
use Rattle.ferry_disk.specs.Files.{Files}
use Rattle.ferry_item.specs.Item.{ItemText}
use Rattle.ferry_item.specs.declared.item.ChunkRef.{ChunkRef}
use Rattle.ferry_msgpack.specs.Tree.{Tree}
use Rattle.ferry_repo.proofs.ComesLemmas.{whole_comes}
use Rattle.ferry_repo.specs.Opening.{RepoState}
use Rattle.ferry_repo.specs.Walk.{Comes, IsToCome, begin_walk}
use Rattle.ferry_repo.specs.Archives.{ContentsCome, HoldsJoined}
use Rattle.ferry_repo.specs.Whole.{HoldsItem, IsWhole, WholeArchive, WholeItem, WholesCome}
use Rattle.ferry_tree.specs.Growth.{ReadItem}
use Rattle.ferry_tree.specs.Restoring.{AreRead, read_as}
use Rattle.ferry_tree.specs.Wholes.{AreOf, IsOf, ReadsWhole}

begin_to_come : (files : Files) (repo : RepoState) (id : List ℕ) (ids : List (List ℕ)) (items : List ItemText)
    → Comes files repo.log repo.keys id [] ids items None → IsToCome files repo.log repo.keys (begin_walk id ids) items None
unfolding IsToCome
begin_to_come files repo id ids items come = come

-- ---- an item

-- the contents of chunks that are joined in a content, none where there is none
abbrev contents_by : (files : Files) (repo : RepoState) (chunks : Option (List ChunkRef)) (content : Option (List ℕ))
    → HoldsJoined files repo.log repo.keys chunks content → List (List ℕ)
contents_by files repo None None holds = []
contents_by files repo None (Some content) holds = []
contents_by files repo (Some chunks) None holds = []
contents_by files repo (Some chunks) (Some content) holds = holds.0

come_by : (files : Files) (repo : RepoState) (chunks : Option (List ChunkRef)) (content : Option (List ℕ))
    (holds : HoldsJoined files repo.log repo.keys chunks content)
    → ContentsCome files repo.log repo.keys (unwrap_or chunks []) (contents_by files repo chunks content holds) None
come_by files repo None None holds = tt
come_by files repo None (Some content) holds = absurd holds
come_by files repo (Some chunks) None holds = absurd holds
come_by files repo (Some chunks) (Some content) holds = holds.1

is_of_by : (files : Files) (repo : RepoState) (fields : Tree) (chunks : Option (List ChunkRef)) (content : Option (List ℕ))
    (holds : HoldsJoined files repo.log repo.keys chunks content)
    → IsOf (record { fields = fields; content = content })
    (read_as (record { fields = fields; chunks = chunks }) (contents_by files repo chunks content holds))
is_of_by files repo fields None None holds = record { shape = refl; content = refl }
is_of_by files repo fields None (Some content) holds = absurd holds
is_of_by files repo fields (Some chunks) None holds = absurd holds
is_of_by files repo fields (Some chunks) (Some content) holds = record { shape = refl; content = holds.2 }

-- ---- items

abbrev reads_by : (files : Files) (repo : RepoState) (items : List ItemText) (wholes : List WholeItem)
    → WholesCome files repo.log repo.keys items None wholes None → List ReadItem
reads_by files repo [] wholes come = []
reads_by files repo (i ∷ is) [] come = []
reads_by files repo (i ∷ is) (w ∷ ws) come =
    read_as i (contents_by files repo i.chunks w.content come.0.content) ∷ reads_by files repo is ws come.1

are_read_by : (files : Files) (repo : RepoState) (items : List ItemText) (wholes : List WholeItem)
    (come : WholesCome files repo.log repo.keys items None wholes None) → AreRead files repo items (reads_by files repo items wholes come)
are_read_by files repo [] wholes come = tt
are_read_by files repo (i ∷ is) [] come = absurd come
are_read_by files repo (i ∷ is) (w ∷ ws) come =
    ((refl, come_by files repo i.chunks w.content come.0.content), are_read_by files repo is ws come.1)

whole_is_of : (files : Files) (repo : RepoState) (item : ItemText) (whole : WholeItem) (holds : HoldsItem files repo.log repo.keys item whole)
    → IsOf whole (read_as item (contents_by files repo item.chunks whole.content holds.content))
whole_is_of files repo item whole holds =
    subst (λ (f : Tree). IsOf (record { fields = f; content = whole.content })
    (read_as item (contents_by files repo item.chunks whole.content holds.content))) (sym holds.fields)
    (is_of_by files repo item.fields item.chunks whole.content holds.content)

are_of_by : (files : Files) (repo : RepoState) (items : List ItemText) (wholes : List WholeItem)
    (come : WholesCome files repo.log repo.keys items None wholes None) → AreOf wholes (reads_by files repo items wholes come)
are_of_by files repo [] [] come = tt
are_of_by files repo [] (w ∷ ws) come = absurd come
are_of_by files repo (i ∷ is) [] come = absurd come
are_of_by files repo (i ∷ is) (w ∷ ws) come = (whole_is_of files repo i w come.0, are_of_by files repo is ws come.1)

pub reads_whole : (files : Files) (repo : RepoState) (name : List ℕ) (whole : WholeArchive)
    → IsWhole files repo.log repo.keys repo.manifest.archives name whole → ReadsWhole files repo name whole
reads_whole files repo name whole is = record {
  walk = begin_walk is.named.id is.archive.items;
  items = is.items;
  reads = reads_by files repo is.items whole.items is.contents;
  begins = record { named = is.named; named_is = is.named_is; archive = is.archive; record_is = is.record_is; walk_is = refl };
  come = begin_to_come files repo is.named.id is.archive.items is.items
      ((whole_comes files repo.log repo.keys is.named.id is.archive.items is.items).1 is.stream);
  are = are_read_by files repo is.items whole.items is.contents;
  are_of = are_of_by files repo is.items whole.items is.contents;
}
