-- Lemmas on specs/ImageSteps.antt: the images of one more Replace.
use Rattle.std.proofs.Common.{◌≡◌, ℕ, Bool, true, false, ◌⊎◌, ◌↔◌, inl, inr}
use Rattle.std.proofs.Common.{List, [], ◌∷◌, ◌++◌}
use Rattle.std.proofs.Common.{Option, Some, refl, sym, ◌∙◌, subst}
use Rattle.ferry_disk.specs.Act.{ReplaceBy, Act, IsPlain, replaced}
use Rattle.ferry_disk.specs.Files.{Files}
use Rattle.ferry_disk.specs.Image.{plain_of, MayStand}
use Rattle.ferry_disk.specs.Image.{settled, IsImage}
use Rattle.ferry_disk.specs.ImageSteps.{Replaces, Stands}
use Rattle.ferry_disk.specs.declared.name.Name.{Name}
use Rattle.ferry_disk.specs.declared.name.Name.TheVariants.{Config, Nonce, Readme, Segment}
use Rattle.ferry_disk.proofs.ImageLemmas.{plain_read}
use Rattle.ferry_disk.proofs.ImageLemmas.{config_plain, nonce_plain, readme_plain}
use Rattle.ferry_disk.proofs.ImageStepLemmas.{LeftAfter, image_after, after_image, now_left, left_now, stands_only}

-- ---- a Replace

perhaps_or_read : (read : Option (List ℕ)) (bytes : List ℕ) (file : Option (List ℕ)) → MayStand (record { read = read; perhaps = Some bytes }) file
    → (file ≡ read) ⊎ (file ≡ Some bytes)
perhaps_or_read read bytes file (inl e) = inl e
perhaps_or_read read bytes file (inr p) = inr (let e = p.1 in let d = p.2 in cc)

module _ (start : Files) (acts : List Act) (s : settled acts ≡ true) (bytes : List ℕ) (image : Files) where
  abbrev config_act : Bool → Act
  config_act done = record { step = ReplaceBy Config bytes; done = done }

  -- an image with these bytes was one that has what a read gives
  config_was : (done : Bool) → LeftAfter start acts (config_act done) image → image.config ≡ Some bytes → Replaces start acts Config bytes image
  config_was done l e =
      let old = record image { config = (plain_of start.config acts Config).read } in
      record {
        old = old;
        is_image = left_now start acts s old (record {
          config_stands = inl refl;
          nonce_stands = l.nonce_stands;
          readme_stands = l.readme_stands;
          each = l.each;
        });
        image_is = λ i. record image { config = e i };
      }

  config_from : IsImage start (acts ++ config_act true ∷ []) image → Replaces start acts Config bytes image
  config_from i =
      let l = image_after start acts s (config_act true) image i in
      config_was true l (stands_only (Some bytes) image.config l.config_stands)

  config_to : Replaces start acts Config bytes image → IsImage start (acts ++ config_act true ∷ []) image
  config_to a =
      let l = now_left start acts s a.old a.is_image in
      subst (IsImage start (acts ++ config_act true ∷ [])) (sym a.image_is) (after_image start acts s (config_act true) (replaced a.old Config bytes)
      (record { config_stands = inl refl; nonce_stands = l.nonce_stands; readme_stands = l.readme_stands; each = l.each }))

  config_either : IsImage start (acts ++ config_act false ∷ []) image → Stands start acts Config image ⊎ Replaces start acts Config bytes image
  config_either i =
      let l = image_after start acts s (config_act false) image i in
      by_case l (perhaps_or_read (plain_of start.config acts Config).read bytes image.config l.config_stands) where
        by_case : LeftAfter start acts (config_act false) image → (image.config ≡ (plain_of start.config acts Config).read) ⊎ (image.config ≡ Some bytes)
            → Stands start acts Config image ⊎ Replaces start acts Config bytes image
        by_case l (inl e) = inl (record {
          is_image = left_now start acts s image (record {
            config_stands = inl e;
            nonce_stands = l.nonce_stands;
            readme_stands = l.readme_stands;
            each = l.each;
          });
          read = e ∙ sym (plain_read start acts Config config_plain);
        })
        by_case l (inr e) = inr (config_was false l e)

  config_undone : Stands start acts Config image ⊎ Replaces start acts Config bytes image → IsImage start (acts ++ config_act false ∷ []) image
  config_undone (inl a) =
      let l = now_left start acts s image a.is_image in
      after_image start acts s (config_act false) image (record {
        config_stands = inl (a.read ∙ plain_read start acts Config config_plain);
        nonce_stands = l.nonce_stands;
        readme_stands = l.readme_stands;
        each = l.each;
      })
  config_undone (inr a) =
      let l = now_left start acts s a.old a.is_image in
      subst (IsImage start (acts ++ config_act false ∷ [])) (sym a.image_is) (after_image start acts s (config_act false) (replaced a.old Config bytes)
      (record { config_stands = inr (bytes, refl, refl); nonce_stands = l.nonce_stands; readme_stands = l.readme_stands; each = l.each }))

module _ (start : Files) (acts : List Act) (s : settled acts ≡ true) (bytes : List ℕ) (image : Files) where
  abbrev nonce_act : Bool → Act
  nonce_act done = record { step = ReplaceBy Nonce bytes; done = done }

  -- an image with these bytes was one that has what a read gives
  nonce_was : (done : Bool) → LeftAfter start acts (nonce_act done) image → image.nonce ≡ Some bytes → Replaces start acts Nonce bytes image
  nonce_was done l e =
      let old = record image { nonce = (plain_of start.nonce acts Nonce).read } in
      record {
        old = old;
        is_image = left_now start acts s old (record {
          config_stands = l.config_stands;
          nonce_stands = inl refl;
          readme_stands = l.readme_stands;
          each = l.each;
        });
        image_is = λ i. record image { nonce = e i };
      }

  nonce_from : IsImage start (acts ++ nonce_act true ∷ []) image → Replaces start acts Nonce bytes image
  nonce_from i =
      let l = image_after start acts s (nonce_act true) image i in
      nonce_was true l (stands_only (Some bytes) image.nonce l.nonce_stands)

  nonce_to : Replaces start acts Nonce bytes image → IsImage start (acts ++ nonce_act true ∷ []) image
  nonce_to a =
      let l = now_left start acts s a.old a.is_image in
      subst (IsImage start (acts ++ nonce_act true ∷ [])) (sym a.image_is) (after_image start acts s (nonce_act true) (replaced a.old Nonce bytes)
      (record { config_stands = l.config_stands; nonce_stands = inl refl; readme_stands = l.readme_stands; each = l.each }))

  nonce_either : IsImage start (acts ++ nonce_act false ∷ []) image → Stands start acts Nonce image ⊎ Replaces start acts Nonce bytes image
  nonce_either i =
      let l = image_after start acts s (nonce_act false) image i in
      by_case l (perhaps_or_read (plain_of start.nonce acts Nonce).read bytes image.nonce l.nonce_stands) where
        by_case : LeftAfter start acts (nonce_act false) image → (image.nonce ≡ (plain_of start.nonce acts Nonce).read) ⊎ (image.nonce ≡ Some bytes)
            → Stands start acts Nonce image ⊎ Replaces start acts Nonce bytes image
        by_case l (inl e) = inl (record {
          is_image = left_now start acts s image (record {
            config_stands = l.config_stands;
            nonce_stands = inl e;
            readme_stands = l.readme_stands;
            each = l.each;
          });
          read = e ∙ sym (plain_read start acts Nonce nonce_plain);
        })
        by_case l (inr e) = inr (nonce_was false l e)

  nonce_undone : Stands start acts Nonce image ⊎ Replaces start acts Nonce bytes image → IsImage start (acts ++ nonce_act false ∷ []) image
  nonce_undone (inl a) =
      let l = now_left start acts s image a.is_image in
      after_image start acts s (nonce_act false) image (record {
        config_stands = l.config_stands;
        nonce_stands = inl (a.read ∙ plain_read start acts Nonce nonce_plain);
        readme_stands = l.readme_stands;
        each = l.each;
      })
  nonce_undone (inr a) =
      let l = now_left start acts s a.old a.is_image in
      subst (IsImage start (acts ++ nonce_act false ∷ [])) (sym a.image_is) (after_image start acts s (nonce_act false) (replaced a.old Nonce bytes)
      (record { config_stands = l.config_stands; nonce_stands = inr (bytes, refl, refl); readme_stands = l.readme_stands; each = l.each }))

module _ (start : Files) (acts : List Act) (s : settled acts ≡ true) (bytes : List ℕ) (image : Files) where
  abbrev readme_act : Bool → Act
  readme_act done = record { step = ReplaceBy Readme bytes; done = done }

  -- an image with these bytes was one that has what a read gives
  readme_was : (done : Bool) → LeftAfter start acts (readme_act done) image → image.readme ≡ Some bytes → Replaces start acts Readme bytes image
  readme_was done l e =
      let old = record image { readme = (plain_of start.readme acts Readme).read } in
      record {
        old = old;
        is_image = left_now start acts s old (record {
          config_stands = l.config_stands;
          nonce_stands = l.nonce_stands;
          readme_stands = inl refl;
          each = l.each;
        });
        image_is = λ i. record image { readme = e i };
      }

  readme_from : IsImage start (acts ++ readme_act true ∷ []) image → Replaces start acts Readme bytes image
  readme_from i =
      let l = image_after start acts s (readme_act true) image i in
      readme_was true l (stands_only (Some bytes) image.readme l.readme_stands)

  readme_to : Replaces start acts Readme bytes image → IsImage start (acts ++ readme_act true ∷ []) image
  readme_to a =
      let l = now_left start acts s a.old a.is_image in
      subst (IsImage start (acts ++ readme_act true ∷ [])) (sym a.image_is) (after_image start acts s (readme_act true) (replaced a.old Readme bytes)
      (record { config_stands = l.config_stands; nonce_stands = l.nonce_stands; readme_stands = inl refl; each = l.each }))

  readme_either : IsImage start (acts ++ readme_act false ∷ []) image → Stands start acts Readme image ⊎ Replaces start acts Readme bytes image
  readme_either i =
      let l = image_after start acts s (readme_act false) image i in
      by_case l (perhaps_or_read (plain_of start.readme acts Readme).read bytes image.readme l.readme_stands) where
        by_case : LeftAfter start acts (readme_act false) image → (image.readme ≡ (plain_of start.readme acts Readme).read) ⊎ (image.readme ≡ Some bytes)
            → Stands start acts Readme image ⊎ Replaces start acts Readme bytes image
        by_case l (inl e) = inl (record {
          is_image = left_now start acts s image (record {
            config_stands = l.config_stands;
            nonce_stands = l.nonce_stands;
            readme_stands = inl e;
            each = l.each;
          });
          read = e ∙ sym (plain_read start acts Readme readme_plain);
        })
        by_case l (inr e) = inr (readme_was false l e)

  readme_undone : Stands start acts Readme image ⊎ Replaces start acts Readme bytes image → IsImage start (acts ++ readme_act false ∷ []) image
  readme_undone (inl a) =
      let l = now_left start acts s image a.is_image in
      after_image start acts s (readme_act false) image (record {
        config_stands = l.config_stands;
        nonce_stands = l.nonce_stands;
        readme_stands = inl (a.read ∙ plain_read start acts Readme readme_plain);
        each = l.each;
      })
  readme_undone (inr a) =
      let l = now_left start acts s a.old a.is_image in
      subst (IsImage start (acts ++ readme_act false ∷ [])) (sym a.image_is) (after_image start acts s (readme_act false) (replaced a.old Readme bytes)
      (record { config_stands = l.config_stands; nonce_stands = l.nonce_stands; readme_stands = inr (bytes, refl, refl); each = l.each }))

pub replace_step : (start : Files) (acts : List Act) (name : Name) (bytes : List ℕ) (image : Files) → settled acts ≡ true → IsPlain name
    → IsImage start (acts ++ record { step = ReplaceBy name bytes; done = true } ∷ []) image ↔ Replaces start acts name bytes image
replace_step start acts Config bytes image s p = (config_from start acts s bytes image, config_to start acts s bytes image)
replace_step start acts Nonce bytes image s p = (nonce_from start acts s bytes image, nonce_to start acts s bytes image)
replace_step start acts Readme bytes image s p = (readme_from start acts s bytes image, readme_to start acts s bytes image)
replace_step start acts (Segment k) bytes image s p = absurd p

pub undone_replace_step : (start : Files) (acts : List Act) (name : Name) (bytes : List ℕ) (image : Files) → settled acts ≡ true → IsPlain name
    → IsImage start (acts ++ record { step = ReplaceBy name bytes; done = false } ∷ []) image
    ↔ (Stands start acts name image ⊎ Replaces start acts name bytes image)
undone_replace_step start acts Config bytes image s p = (config_either start acts s bytes image, config_undone start acts s bytes image)
undone_replace_step start acts Nonce bytes image s p = (nonce_either start acts s bytes image, nonce_undone start acts s bytes image)
undone_replace_step start acts Readme bytes image s p = (readme_either start acts s bytes image, readme_undone start acts s bytes image)
undone_replace_step start acts (Segment k) bytes image s p = absurd p
