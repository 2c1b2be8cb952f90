-- What is built of a file without faults is complete and readable before its relocations.
use Rattle.std.proofs.Common.{Bool, List, None, Option, Some, [], ap, arith, cond, drop, eq-eqb, false, length, length-take, map, nat_eq, nat_le, not, refl, replicate, slice_get, subst, suc, sym, take, true, true≢false, zero, ℕ, ◌%◌, ◌&&◌, ◌*◌, ◌++◌, ◌+◌, ◌<◌, ◌^◌, ◌||◌, ◌∙◌, ◌∷◌, ◌≡◌, ◌≤◌}
use Rattle.std.proofs.lemmas.{Bool.Decides.{nat_tests}, Bool.{ne_eqb}, Option.{none-some, same_Some, slice_get-map, slice_get_within}}
use Rattle.std.specs.{List.{list_any, position_or_len}, Option.{option_map, option_map_or}}
use Rattle.oc_base.specs.{declared.format.Word.TheVariants.{W32, W64}, declared.format.Word.{Word}}
use Rattle.oc_linking.specs.{Numbers.{modulus}, declared.terms.Keep.{Keep}, declared.terms.Kind.{Kind}}
use Rattle.oc_macho.specs.{MachHeader.{mach_format}, Nlist.{nlist_at, nlist_size}, Rules.{mach_dialect}, SectionHeader.{section_header_at, section_header_size}}
use Rattle.oc_macho.specs.Sections.{contents_of, is_zerofill, kind_of, section_name, section_of, sections_in, segment_name, until_nul}
use Rattle.oc_macho.specs.SegmentCommand.{segment_command_at}
use Rattle.oc_macho.specs.Tables.{SectionTable, Tables, headers_place, section_table, sections_by, segment_place, strings_by, symbols_by, symtab_of, tables_of}
use Rattle.oc_macho.specs.{declared.nlist.Nlist.{Nlist}, declared.section_header.SectionHeader.{SectionHeader}}
use Rattle.oc_macho.specs.declared.symtab_command.SymtabCommand.{SymtabCommand}
use Rattle.oc_macho_read.proofs.{AddedLemmas.{inside_by}, SectionedLemmas.{section_from, section_there, sound_section}, StandingLemmas.{given_standing}}
use Rattle.oc_shelf.proofs.{ReadingLaws.ByteLemmas.{all_drop, all_take, number_small}, ReadingLaws.RowLemmas.{length-rows, row_at}}
use Rattle.oc_shelf.proofs.ReadingLaws.CollectedLemmas.{all_mapped}
use Rattle.oc_macho_read.specs.{Adding.{IsClean}, Built.{started}, Given.{given_at}}
use Rattle.oc_neutral.proofs.GivenLaws.{mach_given}
use Rattle.oc_shows.proofs.StartedLaws.{fieldless_at}
use Rattle.oc_neutral.specs.{Building.{is_zero}, GivenTags.{can_have, is_blank_type}, Invariants.{AreBytes}, KindRules.{has_nul}}
use Rattle.oc_neutral.specs.{Mach.Family.{is_mach_name, mach_family}, Mach.Kinds.{is_zerofill_tag, mach_kind, mach_tag}, Objects.{Object}}
use Rattle.oc_neutral.specs.{declared.mach.TheConstants.{S_ZEROFILL}, declared.reloc.Reloc.{Reloc}, declared.section.Section.{Section}}
use Rattle.oc_shows.specs.{Built.{IsStarted}, Finished.{LeavesBlanks}, Readable.{AreZeros, IsReadable}, Started.{stored_section}}
use Rattle.oc_shelf.specs.Reading.Rows.{rows}
use Rattle.oc_linking.specs.Parts as parts
use Rattle.oc_neutral.specs.Mach.Kinds as kinds

-- ... what is read is small

row_from : {X : Type 0} (read : List ℕ → ℕ → X) (size : ℕ) (file : List ℕ) (at n k : ℕ) (x : X) → slice_get (rows read size file at n) k ≡ Some x → (p : ℕ) × (x ≡ read file p)
row_from read size file at n k x e =
    let low = slice_get_within (rows read size file at n) k x e in
    let long = length-rows read size file at n in
    (at + size * k, same_Some x (read file (at + size * k)) (sym e ∙ row_at read size file at n k (omega (arith, low, long))))

nlist_small : (w : Word) (file : List ℕ) → AreBytes file → (at : ℕ) → (nlist_at w file at).n_value < modulus w
unfolding nlist_at
nlist_small W32 file bytes at = let small = number_small file bytes (at + 8) 4 in omega (arith, small)
nlist_small W64 file bytes at = let small = number_small file bytes (at + 8) 8 in omega (arith, small)

pub symbol_small : (w : Word) (file : List ℕ) → AreBytes file → (j : ℕ) (s : Nlist) → slice_get (tables_of w file).symbols j ≡ Some s → s.n_value < modulus w
unfolding tables_of
symbol_small w file bytes j s e = by (symtab_of w file) e
  where
    by : (o : Option SymtabCommand) → slice_get (option_map_or (symbols_by w file) o []) j ≡ Some s → s.n_value < modulus w
    by None h = absurd (none-some s h)
    by (Some c) h =
        let m = row_from (nlist_at w) (nlist_size w) file c.symoff c.nsyms j s h in
        subst (λ (x : Nlist). x.n_value < modulus w) (sym m.1) (nlist_small w file bytes m.0)

pub strings_bytes : (w : Word) (file : List ℕ) → AreBytes file → AreBytes (tables_of w file).strings
unfolding tables_of
strings_bytes w file bytes = by (symtab_of w file)
  where
    by : (o : Option SymtabCommand) → AreBytes (option_map_or (strings_by file) o [])
    by None = tt
    by (Some c) = all_take (λ x. x < 2 ^ 8) c.strsize (drop c.stroff file) (all_drop (λ x. x < 2 ^ 8) c.stroff file bytes)

-- a section header has small flags, and names of 16 bytes
pub record IsSmallHeader (h : SectionHeader) : Type 0 where
  pub flags : h.flags < 2 ^ 32
  pub sectname : length h.sectname ≤ 16
  pub segname : length h.segname ≤ 16

header_small : (w : Word) (file : List ℕ) → AreBytes file → (at : ℕ) → IsSmallHeader (section_header_at w file at)
unfolding section_header_at
header_small W32 file bytes at = record {
  flags = let small = number_small file bytes (at + 56) 4 in omega (arith, small);
  sectname = omega (arith, length-take 16 (drop at file));
  segname = omega (arith, length-take 16 (drop (at + 16) file));
}
header_small W64 file bytes at = record {
  flags = let small = number_small file bytes (at + 64) 4 in omega (arith, small);
  sectname = omega (arith, length-take 16 (drop at file));
  segname = omega (arith, length-take 16 (drop (at + 16) file));
}

pub section_small : (w : Word) (file : List ℕ) → AreBytes file → (i : ℕ) (x : SectionTable) → slice_get (tables_of w file).sections i ≡ Some x → IsSmallHeader x.header
unfolding tables_of section_table
section_small w file bytes i x e = by (segment_place w file) e
  where
    of : (hs : List SectionHeader) → ((k : ℕ) (h : SectionHeader) → slice_get hs k ≡ Some h → IsSmallHeader h) → slice_get (map (section_table file) hs) i ≡ Some x → IsSmallHeader x.header
    of hs each h = head (slice_get hs i) refl (sym (slice_get-map (section_table file) hs i) ∙ h)
      where
        head : (o : Option SectionHeader) → slice_get hs i ≡ o → option_map (section_table file) o ≡ Some x → IsSmallHeader x.header
        head None g h = absurd (none-some x h)
        head (Some y) g h = subst (λ (z : SectionTable). IsSmallHeader z.header) (same_Some (section_table file y) x h) (each i y g)

    by : (o : Option ℕ) → slice_get (option_map_or (sections_by w file) o []) i ≡ Some x → IsSmallHeader x.header
    by None h = absurd (none-some x h)
    by (Some at) h =
        of (rows (section_header_at w) (section_header_size w) file (headers_place w at) (segment_command_at w file at).nsects)
        (λ k y g. let m = row_from (section_header_at w) (section_header_size w) file (headers_place w at) (segment_command_at w file at).nsects k y g in subst IsSmallHeader (sym m.1) (header_small w file bytes m.0)) h

-- ... names of sections

until_plain : (xs : List ℕ) → has_nul (until_nul xs) ≡ false
until_plain [] = refl
until_plain (x ∷ xs) = by (nat_eq x 0) refl (until_plain xs)
  where
    n : ℕ
    n = position_or_len (λ c. nat_eq c 0) xs

    apart : (a : ℕ) → nat_eq a 0 ≡ false → nat_eq 0 a ≡ false
    apart a h = ne_eqb 0 a (λ e. true≢false (sym (eq-eqb a 0 (sym e)) ∙ h))

    by : (b : Bool) → nat_eq x 0 ≡ b → has_nul (take n xs) ≡ false → has_nul (take (cond (not b) (1 + n) 0) (x ∷ xs)) ≡ false
    by true e rest = refl
    by false e rest =
        let one : 1 + n ≡ suc n = omega arith in
        ap (λ (k : ℕ). has_nul (take k (x ∷ xs))) one ∙ ap (λ b. b || has_nul (take n xs)) (apart x e) ∙ rest

until_short : (xs : List ℕ) → length xs ≤ 16 → length (until_nul xs) ≤ 16
until_short xs short = omega (arith, short, length-take (position_or_len (λ c. nat_eq c 0) xs) xs)

nul_append : (xs ys : List ℕ) → has_nul xs ≡ false → has_nul ys ≡ false → has_nul (xs ++ ys) ≡ false
nul_append [] ys e f = f
nul_append (x ∷ xs) ys e f = by (nat_eq 0 x) e (nul_append xs ys)
  where
    by : (b : Bool) → (b || has_nul xs) ≡ false → (has_nul xs ≡ false → has_nul ys ≡ false → has_nul (xs ++ ys) ≡ false) → (b || has_nul (xs ++ ys)) ≡ false
    by b e rest = grind arith

comma_place : (seg sec : List ℕ) → list_any kinds.is_comma seg ≡ false → position_or_len kinds.is_comma (seg ++ 44 ∷ sec) ≡ length seg
comma_place [] sec e = refl
comma_place (x ∷ seg) sec e = by (kinds.is_comma x) refl e (comma_place seg sec)
  where
    by : (b : Bool) → kinds.is_comma x ≡ b → (b || list_any kinds.is_comma seg) ≡ false → (list_any kinds.is_comma seg ≡ false → position_or_len kinds.is_comma (seg ++ 44 ∷ sec) ≡ length seg)
        → position_or_len kinds.is_comma (x ∷ (seg ++ 44 ∷ sec)) ≡ suc (length seg)
    by true h e rest = absurd (true≢false e)
    by false h e rest =
        ap (λ b. cond (not b) (1 + position_or_len kinds.is_comma (seg ++ 44 ∷ sec)) 0) h ∙ ap (λ (n : ℕ). 1 + n) (rest e) ∙ (let one : 1 + length seg ≡ suc (length seg) = omega arith in one)

take_front : (xs ys : List ℕ) → take (length xs) (xs ++ ys) ≡ xs
take_front [] ys = refl
take_front (x ∷ xs) ys = ap (λ (zs : List ℕ). x ∷ zs) (take_front xs ys)

drop_front : (xs ys : List ℕ) (y : ℕ) → drop (length xs + 1) (xs ++ y ∷ ys) ≡ ys
drop_front [] ys y = let one : 0 + 1 ≡ suc 0 = omega arith in ap (λ (n : ℕ). drop n (y ∷ ys)) one
drop_front (x ∷ xs) ys y = (let one : suc (length xs) + 1 ≡ suc (length xs + 1) = omega arith in ap (λ (n : ℕ). drop n (x ∷ (xs ++ y ∷ ys))) one) ∙ drop_front xs ys y

segment_same : (seg sec : List ℕ) → list_any kinds.is_comma seg ≡ false → kinds.segment_of (kinds.mach_name seg sec) ≡ seg
segment_same seg sec e = ap (λ (n : ℕ). take n (seg ++ 44 ∷ sec)) (comma_place seg sec e) ∙ take_front seg (44 ∷ sec)

section_same : (seg sec : List ℕ) → list_any kinds.is_comma seg ≡ false → kinds.section_of (kinds.mach_name seg sec) ≡ sec
section_same seg sec e = ap (λ (n : ℕ). drop (n + 1) (seg ++ 44 ∷ sec)) (comma_place seg sec e) ∙ drop_front seg sec 44

any_comma : (seg sec : List ℕ) → list_any kinds.is_comma (seg ++ 44 ∷ sec) ≡ true
any_comma [] sec = refl
any_comma (x ∷ seg) sec = ap (λ b. kinds.is_comma x || b) (any_comma seg sec) ∙ right (kinds.is_comma x)
  where
    right : (b : Bool) → (b || true) ≡ true
    right b = grind arith

named_so : (seg sec : List ℕ) → list_any kinds.is_comma seg ≡ false → length seg ≤ 16 → length sec ≤ 16 → is_mach_name (kinds.mach_name seg sec) ≡ true
named_so seg sec e short small =
    three (list_any kinds.is_comma (kinds.mach_name seg sec)) (nat_le (length (kinds.segment_of (kinds.mach_name seg sec))) 16) (nat_le (length (kinds.section_of (kinds.mach_name seg sec))) 16) (any_comma seg sec)
    (ap (λ (l : List ℕ). nat_le (length l) 16) (segment_same seg sec e) ∙ below (length seg) 16 short) (ap (λ (l : List ℕ). nat_le (length l) 16) (section_same seg sec e) ∙ below (length sec) 16 small)
  where
    below : (a b : ℕ) → a ≤ b → nat_le a b ≡ true
    below a b l = grind (arith, nat_tests)

    three : (a b c : Bool) → a ≡ true → b ≡ true → c ≡ true → (a && b && c) ≡ true
    three a b c d e f = grind arith

neither : (a b : Bool) → (a || not b) ≡ false → (a ≡ false) × (b ≡ true)
neither a b e = grind arith

gives_is : (w : Word) (kind : Kind) (name : List ℕ) (tag : ℕ) → can_have (mach_format w) kind name tag ≡ (mach_family w).gives kind name tag
gives_is w kind name tag = grind arith

blank_is : (w : Word) (tag : ℕ) → is_blank_type (mach_format w) tag ≡ is_zerofill_tag tag
blank_is w tag = grind arith

zeros_all : (n : ℕ) → AreZeros (replicate n 0)
zeros_all zero = tt
zeros_all (suc n) = (refl, zeros_all n)

module _ (w : Word) (file : List ℕ) (bytes : AreBytes file) (keep : Keep) (clean : IsClean (tables_of w file) keep) where
  abbrev t : Tables
  t = tables_of w file

  abbrev object : Object
  object = (started t keep).object

  -- ... sections

  givable : (k : ℕ) (s : parts.Section) → slice_get (sections_in t) k ≡ Some s → can_have (mach_format w) s.kind s.name s.tag ≡ true
  unfolding section_of kind_of
  givable k s there_is =
      let m = section_from t k s there_is in
      let h = m.0.header in
      let sound = sound_section t clean.sections k m.0 m.1 in
      let odd = neither (list_any kinds.is_comma (segment_name h)) (kinds.is_read_type h.flags) sound.odd in
      let small = section_small w file bytes k m.0 m.1 in
      let seg = segment_name h in
      let sec = section_name h in
      let name = kinds.mach_name seg sec in
      let nul : has_nul name ≡ false = nul_append seg (44 ∷ sec) (until_plain h.segname) (until_plain h.sectname) in
      subst (λ (x : parts.Section). can_have (mach_format w) x.kind x.name x.tag ≡ true) m.2
      (gives_is w (mach_kind seg sec h.flags) name (mach_tag h.flags)
      ∙ sym (ap (λ (l : List ℕ). (mach_family w).gives (mach_kind l sec h.flags) name (mach_tag h.flags)) (segment_same seg sec odd.0))
      ∙ sym (ap (λ (l : List ℕ). (mach_family w).gives (mach_kind (kinds.segment_of name) l h.flags) name (mach_tag h.flags)) (section_same seg sec odd.0))
      ∙ mach_given name h.flags nul (named_so seg sec odd.0 (until_short h.segname small.segname) (until_short h.sectname small.sectname)) small.flags odd.1 w)

  -- one whose type has no bytes in a file is zeros
  blank : (k : ℕ) (x : Section) → slice_get (map (stored_section []) (sections_in t)) k ≡ Some x → is_zerofill_tag x.tag ≡ true → AreZeros x.bytes
  unfolding section_of contents_of mach_tag
  blank k x at is = by (slice_get (sections_in t) k) refl (sym (slice_get-map (stored_section []) (sections_in t) k) ∙ at)
    where
      of : (s : parts.Section) → slice_get (sections_in t) k ≡ Some s → stored_section [] s ≡ x → AreZeros x.bytes
      of s g same =
          let m = section_from t k s g in
          let tag : is_zerofill_tag (kinds.mach_tag m.0.header.flags) ≡ true = ap (λ (y : parts.Section). is_zerofill_tag y.tag) m.2 ∙ ap (λ (y : Section). is_zerofill_tag y.tag) same ∙ is in
          let zerofill : is_zerofill m.0.header ≡ true = sym (ap (λ (n : ℕ). nat_eq n S_ZEROFILL) (tag_type m.0.header.flags)) ∙ tag in
          subst (λ (y : Section). AreZeros y.bytes) (ap (stored_section []) m.2 ∙ same)
          (subst (λ (b : Bool). AreZeros (cond (is_zero (kind_of m.0.header)) [] (cond b (replicate m.0.header.size 0) m.0.raw))) (sym zerofill) (either (is_zero (kind_of m.0.header)) m.0.header.size))
        where
          tag_type : (n : ℕ) → kinds.mach_tag n % 256 ≡ n % 256
          tag_type n = omega arith

          either : (z : Bool) (n : ℕ) → AreZeros (cond z [] (replicate n 0))
          either true n = tt
          either false n = zeros_all n

      by : (o : Option parts.Section) → slice_get (sections_in t) k ≡ o → option_map (stored_section []) o ≡ Some x → AreZeros x.bytes
      by None g h = absurd (none-some x h)
      by (Some s) g h = of s g (same_Some (stored_section [] s) x h)

  pub readable : IsReadable object
  unfolding tables_of
  readable = record {
    tags = all_mapped (λ (x : Section). can_have (mach_format w) x.kind x.name x.tag ≡ true) (stored_section []) (sections_in t) givable;
    blanks = λ s x at is. (blank s x at (sym (blank_is w x.tag) ∙ is), fieldless_at {T = Reloc} (map (stored_section []) (sections_in t)) s);
  }

  -- nothing is given in a section whose type has no bytes
  pub leaves_blanks : (start : IsStarted (mach_dialect w) file keep (started t keep)) → LeavesBlanks object (given_at t keep)
  unfolding tables_of section_of mach_tag
  leaves_blanks start s x at is q = by (given_at t keep s q) refl
    where
      by : (o : Option Reloc) → given_at t keep s q ≡ o → o ≡ None
      by None e = refl
      by (Some r) e =
          let m = given_standing w file keep object start.symbols clean.relocs s q r e in
          let stored = (inside_by w file keep clean start m.c.header m.item m.good.outside).0 in
          let same : stored_section [] (section_of (s + 1, m.c)) ≡ x
          = same_Some (stored_section [] (section_of (s + 1, m.c))) x (sym (slice_get-map (stored_section []) (sections_in t) s ∙ ap (option_map (stored_section [])) (section_there t s m.c m.there)) ∙ at) in
          let tag : is_zerofill_tag (kinds.mach_tag m.c.header.flags) ≡ true = ap (λ (y : Section). is_zerofill_tag y.tag) same ∙ sym (blank_is w x.tag) ∙ is in
          absurd (true≢false (sym tag ∙ ap (λ (n : ℕ). nat_eq n S_ZEROFILL) (tag_type m.c.header.flags) ∙ stored))
        where
          tag_type : (n : ℕ) → kinds.mach_tag n % 256 ≡ n % 256
          tag_type n = omega arith
