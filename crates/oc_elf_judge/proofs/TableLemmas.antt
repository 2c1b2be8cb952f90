-- Where the tables and groups of a file stand whose section headers have no fault.
use Rattle.std.proofs.Common.{◌≡◌, ℕ, zero, suc, ◌+◌, ◌*◌, ◌/◌, ◌<◌, ◌≤◌, inl, inr, Bool, true, false, cond, eqb, List, [], ◌∷◌, length, Option, None, Some, refl, sym, ◌∙◌, ap, subst, arith}
use Rattle.std.specs.{Prelude.{not, nat_lt, nat_le, is_some}, Option.{unwrap_or, option_map_or}}
use Rattle.std.proofs.lemmas.{Bool.{eqb-true, true≢false, and_parts, cases_lt}, Bool.Decides.{nat_tests}, Option.{none-some, same_Some}}
use Rattle.oc_linking.specs.FirstFault.{fault_of, stage_fault}
use Rattle.oc_linking.proofs.Upto.{first_upto_from, first_upto_stop}
use Rattle.oc_shelf.proofs.{ReadingLaws.FirstsLemmas.{keyed_from}, ReadingLaws.StageLemmas.{clean_at}}
use Rattle.oc_elf.specs.{declared.constants.TheConstants.{SHT_SYMTAB, SHT_SYMTAB_SHNDX, SHT_GROUP}, declared.shdr.Shdr.{Shdr}, Classes.{reloc_type, word_of}}
use Rattle.oc_elf.specs.{Frames.{FileFrame, header_at}, Laid.{IsFrame}, Sections.{is_carried, is_type, relocated_by, shndx_number, symtab_among, table_among}}
use Rattle.oc_elf.specs.{SectionRules.{has_bytes, is_good_group, is_good_shndx, is_good_symtab, section_stage}, Shdr.{null_shdr}}
use Rattle.oc_elf.specs.{Tables.{entry_count, shndx_of, symbol_count, symtab_of}, Sym.{sym_size}}
use Rattle.oc_elf_judge.specs.Known.{IsSymtab, IsTable, AreSigned}
use Rattle.oc_base.specs.{declared.format.Word.{Word}, declared.format.Word.TheVariants.{W32, W64}}
use Rattle.oc_elf_judge.proofs.SectionLemmas.{IsSound, here, null_first, sound_at}

table_bytes : (w : Word) (s : Shdr) → is_type (reloc_type w) s ≡ true → has_bytes s ≡ true
table_bytes W32 s is = let e : s.sh_type ≡ 9 = eqb-true s.sh_type 9 is in rw e refl
table_bytes W64 s is = let e : s.sh_type ≡ 4 = eqb-true s.sh_type 4 is in rw e refl

shndx_bytes : (s : Shdr) → is_type SHT_SYMTAB_SHNDX s ≡ true → has_bytes s ≡ true
shndx_bytes s is = let e : s.sh_type ≡ 18 = eqb-true s.sh_type 18 is in rw e refl

symtab_bytes : (s : Shdr) → is_type SHT_SYMTAB s ≡ true → has_bytes s ≡ true
symtab_bytes s is = let e : s.sh_type ≡ 2 = eqb-true s.sh_type 2 is in rw e refl

pub at_least : (a b : ℕ) → nat_le a b ≡ true → a ≤ b
at_least a b e = grind (arith, nat_tests)

-- a good table of section numbers is that of a symbol table, and has enough
shndx_enough : (f : FileFrame) (k : ℕ) (s : Shdr) → is_good_shndx f k s ≡ true → (is_type SHT_SYMTAB (here f s.sh_link) ≡ true) × ((here f s.sh_link).sh_size / sym_size (word_of f.class) ≤ s.sh_size / 4)
unfolding is_good_shndx
shndx_enough f k s is =
    let a = and_parts _ _ is in
    let b = and_parts _ _ a.0 in
    let c = and_parts _ _ b.0 in
    (c.1, at_least _ _ b.1)

pub group_bytes : (s : Shdr) → is_type SHT_GROUP s ≡ true → has_bytes s ≡ true
group_bytes s is = let e : s.sh_type ≡ 17 = eqb-true s.sh_type 17 is in rw e refl

-- there is no section past the last header
pub header_past : (hs : List Shdr) (j : ℕ) → length hs ≤ j → header_at hs j ≡ null_shdr
header_past [] j le = refl
header_past (h ∷ hs) zero le = absurd (omega arith)
header_past (h ∷ hs) (suc j) le = header_past hs j (omega arith)

-- a carried section is there
pub carried_there : (f : FileFrame) (j : ℕ) → is_carried (here f j) ≡ true → j < length f.headers
carried_there f j is = elim (cases_lt j (length f.headers)) [
  | inl low ↦ low
  | inr past ↦ absurd (true≢false (sym is ∙ ap is_carried (header_past f.headers j past)))
]

module _ (f : FileFrame) (frame : IsFrame f) (clean : stage_fault (section_stage f) ≡ None) where
  -- a header of a type other than 0 is there and sound
  pub typed_sound : (k : ℕ) (b : ℕ) → eqb b 0 ≡ false → is_type b (here f k) ≡ true → (k < length f.headers) × IsSound f k (here f k)
  typed_sound k b other is =
      let low = there in (
        low,
        elim (sound_at f k (clean_at (fault_of (section_stage f)) (length f.headers) k clean low)) as (λ _. IsSound f k (here f k)) [
          | inl none ↦ absurd (no_null (ap (λ (j : ℕ). here f j) none ∙ null_first f frame))
          | inr sound ↦ sound
        ],
      )
    where
      no_null : here f k ≡ null_shdr → ⊥
      no_null e =
          let zero_type : b ≡ 0 = sym (eqb-true (here f k).sh_type b is) ∙ ap (λ (s : Shdr). s.sh_type) e in
          true≢false (sym (ap (λ (n : ℕ). eqb n 0) zero_type) ∙ other)

      there : k < length f.headers
      there = elim (cases_lt k (length f.headers)) [ inl low ↦ low | inr past ↦ absurd (no_null (header_past f.headers k past)) ]

  null_lies : (s : Shdr) → s ≡ header_at f.headers 0 → s.sh_offset + s.sh_size ≤ length f.file
  null_lies s is = rw (is, null_first f frame) (omega arith)

  -- a symbol table that is there is the first
  only_symtab : (k : ℕ) → is_type SHT_SYMTAB (here f k) ≡ true → symtab_of f ≡ here f k
  unfolding is_good_symtab
  only_symtab k is =
      let m = typed_sound k SHT_SYMTAB refl is in
      let good = and_parts _ _ (m.1.symtab is) in
      let none : symtab_among f k ≡ None = none_is (symtab_among f k) good.1 in
      let found : symtab_among f (length f.headers) ≡ Some k
      = first_upto_stop (λ j. cond (is_type SHT_SYMTAB (header_at f.headers j)) (Some j) None) k (length f.headers) k none (ap (λ b. cond b (Some k) None) is) m.0 in
      ap (λ (o : Option ℕ). header_at f.headers (unwrap_or o 0)) found
    where
      none_is : (o : Option ℕ) → not (is_some o) ≡ true → o ≡ None
      none_is None e = refl
      none_is (Some x) e = absurd (true≢false (sym e))

  -- the table of section numbers lies in the file
  indexes_lie : is_type SHT_SYMTAB_SHNDX (shndx_of f) ≡ true → (shndx_of f).sh_offset + 4 * symbol_count f ≤ length f.file
  indexes_lie = by (shndx_number f.class f.headers)
    where
      by : (o : Option ℕ) → is_type SHT_SYMTAB_SHNDX (option_map_or (λ k. header_at f.headers k) o null_shdr) ≡ true → (option_map_or (λ k. header_at f.headers k) o null_shdr).sh_offset + 4 * symbol_count f ≤ length f.file
      by None is = absurd (true≢false (sym is))
      by (Some k) is =
          let sound = (typed_sound k SHT_SYMTAB_SHNDX refl is).1 in
          let lies = sound.lies (shndx_bytes (here f k) is) in
          let enough = shndx_enough f k (here f k) (sound.shndx is) in
          let same : (here f (here f k).sh_link).sh_size / sym_size (word_of f.class) ≡ symbol_count f = ap (λ (s : Shdr). s.sh_size / sym_size (word_of f.class)) (sym (only_symtab (here f k).sh_link enough.0)) in
          let most = enough.1 in
          omega (arith, lies, same, most)

  pub symtab_is : (o : Option ℕ) → o ≡ symtab_among f (length f.headers) → IsSymtab f (header_at f.headers (unwrap_or o 0))
  symtab_is o is = record { is = ap (λ (o : Option ℕ). header_at f.headers (unwrap_or o 0)) is; lies = by o is; indexes = indexes_lie; small = frame.small }
    where
      by : (o : Option ℕ) → o ≡ symtab_among f (length f.headers) → (header_at f.headers (unwrap_or o 0)).sh_offset + (header_at f.headers (unwrap_or o 0)).sh_size ≤ length f.file
      by None is = null_lies (header_at f.headers 0) refl
      by (Some k) is =
          let m = first_upto_from (λ j. cond (is_type SHT_SYMTAB (header_at f.headers j)) (Some j) None) (length f.headers) k (sym is) in
          found m.0 m.1 (is_type SHT_SYMTAB (header_at f.headers m.0)) refl m.2
        where
          found : (j : ℕ) → j < length f.headers → (b : Bool) → is_type SHT_SYMTAB (header_at f.headers j) ≡ b → cond b (Some j) None ≡ Some k → (here f k).sh_offset + (here f k).sh_size ≤ length f.file
          found j low true e g =
              let sound = (typed_sound j SHT_SYMTAB refl e).1 in
              subst (λ (i : ℕ). (here f i).sh_offset + (here f i).sh_size ≤ length f.file) (same_Some j k g) (sound.lies (symtab_bytes (here f j) e))
          found j low false e g = absurd (none-some k g)

  pub table_is : (i : ℕ) (o : Option ℕ) → o ≡ table_among f (length f.headers) i → IsTable f i (header_at f.headers (unwrap_or o 0))
  table_is i o is = record { is = ap (λ (o : Option ℕ). header_at f.headers (unwrap_or o 0)) is; lies = by o is; small = frame.small }
    where
      by : (o : Option ℕ) → o ≡ table_among f (length f.headers) i → (header_at f.headers (unwrap_or o 0)).sh_offset + (header_at f.headers (unwrap_or o 0)).sh_size ≤ length f.file
      by None is = null_lies (header_at f.headers 0) refl
      by (Some k) is =
          let m = keyed_from (relocated_by f) (length f.headers) i k (sym is) in
          found (is_type (reloc_type (word_of f.class)) (here f k)) refl m.is
        where
          some_type : (w : Word) → eqb (reloc_type w) 0 ≡ false
          some_type W32 = refl
          some_type W64 = refl

          found : (b : Bool) → is_type (reloc_type (word_of f.class)) (here f k) ≡ b → cond b (Some (here f k).sh_info) None ≡ Some i → (here f k).sh_offset + (here f k).sh_size ≤ length f.file
          found true e g = let sound = (typed_sound k (reloc_type (word_of f.class)) (some_type (word_of f.class)) e).1 in sound.lies (table_bytes (word_of f.class) (here f k) e)
          found false e g = absurd (none-some i g)

  -- ... groups

  -- a group lies in the file, and has its first word
  pub record IsWordy (g : ℕ) : Type 0 where
    pub lies : (here f g).sh_offset + (here f g).sh_size ≤ length f.file
    pub first : 4 ≤ (here f g).sh_size
    pub there : g < length f.headers

  pub group_at : (g : ℕ) → is_type SHT_GROUP (here f g) ≡ true → IsWordy g
  unfolding is_good_group
  group_at g is =
      let m = typed_sound g SHT_GROUP refl is in
      let good = (m.1.group is).good in
      let four = and_parts _ _ good in
      let three = and_parts _ _ four.0 in
      let two = and_parts _ _ three.0 in
      let one = and_parts _ _ two.0 in
      record { lies = m.1.lies (group_bytes (here f g) is); first = at_least 4 (here f g).sh_size one.1; there = m.0 }

  -- the signatures of groups are symbols
  pub are_signed : AreSigned f
  unfolding is_good_group
  are_signed g is =
      let group = (and_parts _ _ is).0 in
      let m = typed_sound g SHT_GROUP refl group in
      let good = (m.1.group group).good in
      let four = and_parts _ _ good in
      let three = and_parts _ _ four.0 in
      let two = and_parts _ _ three.0 in
      let low = four.1 in
      let table : symtab_of f ≡ here f (here f g).sh_link = only_symtab (here f g).sh_link two.1 in
      below (here f g).sh_info (entry_count f (here f (here f g).sh_link)) (symbol_count f) low (ap (entry_count f) table)
    where
      below : (a b c : ℕ) → nat_lt a b ≡ true → c ≡ b → a < c
      below a b c low e = grind (arith, nat_tests)
