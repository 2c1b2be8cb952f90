-- The groups and sections of a file without faults, added one after the other.
use Rattle.std.proofs.Common.{◌≡◌, ℕ, zero, suc, ◌+◌, ◌<◌, ◌≤◌, inl, inr, true, false, cond, List, [], ◌∷◌, ◌++◌, length, map, take, drop, replicate, Option, None, Some, Ok, refl, sym, ◌∙◌, ap, subst, arith, length-take, length-drop}
use Rattle.std.specs.{Prelude.{not, ◌&&◌, ◌||◌}, Option.{option_map_or}}
use Rattle.std.proofs.lemmas.{Bool.{eqb-true, true≢false}, List.{length-map}}
use Rattle.oc_linking.specs.FirstFault.{fault_of, stage_fault}
use Rattle.oc_linking.specs.Parts as parts
use Rattle.oc_neutral.specs.{declared.elf.TheConstants.{SHT_NOBITS}, declared.section.Section.{Section}}
use Rattle.oc_neutral.specs.{Building.{is_zero, limit_passed, section_added, size_sum, stored_size, stored_sum}, Invariants.{HasItsBytes}}
use Rattle.oc_shows.specs.Started.{groups_by, plain_draft, stored_section}
use Rattle.oc_shows.proofs.{BuiltSteps.{within}, StartedLaws.{section_more}}
use Rattle.oc_shelf.specs.{Reading.Collected.{collected}, Reading.Sums.{sum_upto}}
use Rattle.oc_shelf.proofs.{ReadingLaws.CollectedLemmas.{collected-some, collected-none, collected-sum, length-collected}, ReadingLaws.StageLemmas.{clean_at}}
use Rattle.oc_elf.specs.{declared.constants.TheConstants.{SHT_NULL}, declared.shdr.Shdr.{Shdr}, CarriedSections.{section_with, section_of}, Classes.{format_of}}
use Rattle.oc_elf.specs.{Frames.{FileFrame}, Laid.{IsFrame}, Sections.{is_type, is_carried, kind_of, contents_of}}
use Rattle.oc_elf.specs.SectionRules.{has_bytes, size_counted, bytes_counted, section_stage}
use Rattle.oc_elf_read.specs.Built.{IsPlaced, keys_of, sectioned}
use Rattle.oc_elf_judge.proofs.{SectionLemmas.{IsSound, here, null_first, sound_at}, PlaceLemmas.{section_some, section_none}}
use Rattle.oc_neutral.proofs.LeftObject.{sum_map}

-- a carried section takes bytes of the file, where it is not NOBITS
carried_bytes : (s : Shdr) → is_carried s ≡ true → is_type SHT_NOBITS s ≡ false → has_bytes s ≡ true
carried_bytes s is other =
    elim (is_type SHT_NULL s) as (λ b. is_type SHT_NULL s ≡ b → not (b || is_type SHT_NOBITS s) ≡ true) [
      | true ↦ λ e. let null : s.sh_type ≡ 0 = eqb-true s.sh_type 0 e in absurd (true≢false (sym is ∙ rw null refl))
      | false ↦ λ e. ap not other
    ] refl

sum_same : (f g : ℕ → ℕ) (n : ℕ) → ((k : ℕ) → f k ≡ g k) → sum_upto f n ≡ sum_upto g n
sum_same f g zero same = refl
sum_same f g (suc n) same = rw (sum_same f g n same, same n) refl

module _ (f : FileFrame) where
  abbrev pub stored_as : parts.Section → Section
  stored_as s = stored_section (keys_of f) s

  size_at : (k : ℕ) → option_map_or (λ (x : parts.Section). (stored_as x).size) (section_of f k) 0 ≡ size_counted f k
  unfolding section_of section_with
  size_at k = elim (is_carried (here f k)) as (λ b. option_map_or (λ (x : parts.Section). x.size) (cond b (Some (section_with f k (here f k))) None) 0 ≡ cond b (here f k).sh_size 0) [ true ↦ refl | false ↦ refl ]

  bytes_at : (k : ℕ) → option_map_or (λ (x : parts.Section). stored_size (stored_as x)) (section_of f k) 0 ≡ bytes_counted f k
  unfolding section_of section_with
  bytes_at k = elim (is_carried (here f k)) as (λ b. option_map_or (λ (x : parts.Section). cond (is_zero x.kind) 0 x.size) (cond b (Some (section_with f k (here f k))) None) 0 ≡ cond (b && not (is_zero (kind_of f (here f k)))) (here f k).sh_size 0) [
    | true ↦ elim (is_zero (kind_of f (here f k))) as (λ z. cond z 0 (here f k).sh_size ≡ cond (not z) (here f k).sh_size 0) [ true ↦ refl | false ↦ refl ]
    | false ↦ refl
  ]

  -- the sums of the sections so far
  sizes_are : (n : ℕ) → size_sum (map stored_as (collected (section_of f) n)) ≡ sum_upto (size_counted f) n
  sizes_are n =
      sum_map (λ (x : Section). x.size) stored_as (collected (section_of f) n) ∙ collected-sum (section_of f) (λ (x : parts.Section). (stored_as x).size) n
      ∙ sum_same (λ k. option_map_or (λ (x : parts.Section). (stored_as x).size) (section_of f k) 0) (size_counted f) n size_at

  stored_are : (n : ℕ) → stored_sum (map stored_as (collected (section_of f) n)) ≡ sum_upto (bytes_counted f) n
  stored_are n =
      sum_map stored_size stored_as (collected (section_of f) n) ∙ collected-sum (section_of f) (λ (x : parts.Section). stored_size (stored_as x)) n
      ∙ sum_same (λ k. option_map_or (λ (x : parts.Section). stored_size (stored_as x)) (section_of f k) 0) (bytes_counted f) n bytes_at

  length-zeros : (n : ℕ) → length (replicate {A = ℕ} n 0) ≡ n
  length-zeros zero = refl
  length-zeros (suc n) = omega (arith, length-zeros n)

  -- the contents of a section are as long as it is
  pub length-contents : (s : Shdr) → IsPlaced f s → length (contents_of f s) ≡ s.sh_size
  length-contents s is = elim (is_type SHT_NOBITS s) as (λ b. is_type SHT_NOBITS s ≡ b → length (cond b (replicate s.sh_size 0) (take s.sh_size (drop s.sh_offset f.file))) ≡ s.sh_size) [
    | true ↦ λ e. length-zeros s.sh_size
    | false ↦ λ e. let lies = is.lies e in omega (arith, length-take s.sh_size (drop s.sh_offset f.file), length-drop s.sh_offset f.file, lies)
  ] refl

  pub bytes_long : (k : ℕ) (s : Shdr) → IsPlaced f s → HasItsBytes (stored_as (section_with f k s))
  unfolding section_with
  bytes_long k s is = elim (is_zero (kind_of f s)) as (λ z. length (cond z [] (contents_of f s)) ≡ cond z 0 s.sh_size) [ true ↦ refl | false ↦ length-contents s is ]

  module _ (frame : IsFrame f) (clean : stage_fault (section_stage f) ≡ None) (k : ℕ) (low : k < length f.headers) where
    -- a carried section is sound
    pub carried_sound : is_carried (here f k) ≡ true → IsSound f k (here f k)
    carried_sound is = elim (sound_at f k (clean_at (fault_of (section_stage f)) (length f.headers) k clean low)) as (λ _. IsSound f k (here f k)) [
      | inl none ↦ absurd (true≢false (sym is ∙ ap (λ (j : ℕ). is_carried (here f j)) none ∙ ap is_carried (null_first f frame)))
      | inr sound ↦ sound
    ]

    pub placed_at : is_carried (here f k) ≡ true → IsPlaced f (here f k)
    placed_at is =
        let sound = carried_sound is in
        let counted = sound.carried is in
        record { lies = λ other. sound.lies (carried_bytes (here f k) is other); size = counted.size; align = counted.range; small = frame.small }

    -- it passes no limit
    limit_none : is_carried (here f k) ≡ true → limit_passed (map stored_as (collected (section_of f) k)) (stored_as (section_with f k (here f k))) ≡ None
    unfolding section_with
    limit_none is =
        let counted = (carried_sound is).carried is in
        within (map stored_as (collected (section_of f) k)) (stored_as (section_with f k (here f k))) (sum_upto (size_counted f) k) (sum_upto (bytes_counted f) k) (sizes_are k) (stored_are k) counted.size
        (subst (λ n. sum_upto (size_counted f) k + n ≤ 2147483648) (ap (λ b. cond b (here f k).sh_size 0) is) counted.sizes)
        (subst (λ n. sum_upto (bytes_counted f) k + n ≤ 67108864) (sym (bytes_at k) ∙ ap (λ (o : Option parts.Section). option_map_or (λ (x : parts.Section). stored_size (stored_as x)) o 0) (section_some f k is)) counted.bytes)

    -- so it is added
    pub carried_added : is_carried (here f k) ≡ true → section_added (sectioned f k) (stored_as (section_with f k (here f k))) ≡ Ok (sectioned f (k + 1))
    carried_added is =
        section_more (format_of f.class) (groups_by (keys_of f)) (map stored_as (collected (section_of f) k)) [] (stored_as (section_with f k (here f k))) (limit_none is)
        ∙ ap (λ (ss : List Section). Ok (plain_draft (format_of f.class) (groups_by (keys_of f)) ss []))
        (sym (more stored_as (collected (section_of f) k) (section_with f k (here f k))) ∙ ap (λ (xs : List parts.Section). map stored_as xs) (sym (collected-some (section_of f) k (section_with f k (here f k)) (section_some f k is))))
      where
        more : {X Y : Type 0} (g : X → Y) (xs : List X) (x : X) → map g (xs ++ x ∷ []) ≡ map g xs ++ g x ∷ []
        more g [] x = refl
        more {X} {Y} g (y ∷ xs) x = ap (λ (ys : List Y). g y ∷ ys) (more g xs x)

    -- and any other leaves what is built
    pub passed_over : is_carried (here f k) ≡ false → sectioned f k ≡ sectioned f (k + 1)
    passed_over is = ap (λ (xs : List parts.Section). plain_draft (format_of f.class) (groups_by (keys_of f)) (map stored_as xs) []) (sym (collected-none (section_of f) k (section_none f k is)))

    pub room : length (map stored_as (collected (section_of f) k)) < 2147483647
    room = let few = frame.few in omega (arith, length-map (collected (section_of f) k) stored_as, length-collected (section_of f) k, few, low)
