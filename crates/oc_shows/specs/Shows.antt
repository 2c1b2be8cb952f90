-- When a neutral object shows a file (our profile).
use Rattle.std.specs.{Prelude.{◌≡◌, ℕ, ◌<◌, true, false, List, [], map, slice_get, Option, Some}, Option.{option_map}}
use Rattle.oc_base.specs.declared.format.Word.{Word}
use Rattle.oc_linking.specs.{declared.terms.Keep.{Keep}, declared.terms.Patch.{Patch}, Placing.{Placement}, Values.{Valuation, TrueToPinned}}
use Rattle.oc_linking.specs.{Images.{Patches, overlays, overflows}, Linking.{patch_of}, Shows.{Apart, lives, unders}}
use Rattle.oc_linking.specs.Parts as parts
use Rattle.oc_neutral.specs.{declared.reloc.Reloc.{Reloc}, Objects.{Object, reloc_at}}
use Rattle.oc_neutral.specs.Faces.{shown_sections, shown_symbols, contents_of, named_of, fields_of, frame_of}
use Rattle.oc_neutral.specs.Dialects.{Dialect, Look, is_folded, looks_in, patches_in}

-- the look of a relocation
abbrev pub reloc_look : Object → Reloc → Look
reloc_look n r = record { base = r.form.base; less = r.form.less; width = r.form.width; check = r.form.check; target = named_of n.symbols r.target; hint = r.hint }

-- the looks of the fields of an object
abbrev pub looks_of : Object → ℕ → ℕ → Option Look
looks_of n s at = option_map (reloc_look n) (reloc_at n s at)

-- the fields of an object with their residues
abbrev pub patches_of : Object → Placement → Valuation → Patches
patches_of n p v s at = option_map (patch_of p v) (fields_of n s at)

-- v gives every Local and every pinned symbol its own site, and every Local no slot
pub record IsTrueToFixed (w : Word) (symbols : List parts.Symbol) (p : Placement) (v : Valuation) : Type 0 where
  pub sites : TrueToPinned w symbols p v
  pub slots : (k : ℕ) (s : parts.Symbol) → slice_get symbols k ≡ Some s → parts.is_local s.binding ≡ true → (v s.number).slot ≡ 0

-- no two symbols have one number
abbrev pub AreNumbered : List parts.Symbol → Type 0
AreNumbered symbols = (i j : ℕ) (s t : parts.Symbol) → i < j → slice_get symbols i ≡ Some s → slice_get symbols j ≡ Some t → s.number ≡ t.number → ⊥

-- the fields of the file have the residues of the object, at one placement and valuation
pub record ShowsAt (f : Dialect) (b : List ℕ) (keep : Keep) (n : Object) (p : Placement) (v : Valuation) : Type 0 where
  -- no two fields of the file meet
  pub apart : (s : ℕ) → Apart (patches_in f b keep p v s)
  -- what is folded fits
  pub fit : (s at : ℕ) (q : Patch) → is_folded f b keep s at ≡ true → patches_in f b keep p v s at ≡ Some q → overflows f.rules.word q ≡ false
  -- the contents are the file's, with the constants in the folded fields, and zeros under the others
  pub contents : map contents_of n.sections ≡ overlays (unders (is_folded f b keep) (patches_in f b keep p v)) 0 (map (λ (s : parts.Section). s.contents) (f.rules.sections b))
  -- the fields are the others, with the file's widths, checks and residues
  pub patches : (s at : ℕ) → patches_of n p v s at ≡ lives (is_folded f b keep) (patches_in f b keep p v) s at

-- the object n shows the file b, read under `keep`: it has the carried sections and symbols, and for the fields of the kept sections relocations
pub record Shows (f : Dialect) (b : List ℕ) (keep : Keep) (n : Object) : Type 0 where
  pub format : n.format ≡ f.format
  pub sections : map frame_of (shown_sections n) ≡ map frame_of (f.rules.sections b)
  pub symbols : shown_symbols n ≡ f.rules.symbols b keep
  pub numbered : AreNumbered (f.rules.symbols b keep)
  -- widths, checks, bases, what is taken, what is named, and hints
  pub looks : (s at : ℕ) → looks_of n s at ≡ looks_in f b keep s at
  -- and this at every placement and every valuation that is true to Locals and pinned symbols
  pub at : (p : Placement) (v : Valuation) → IsTrueToFixed f.rules.word (f.rules.symbols b keep) p v → ShowsAt f b keep n p v
