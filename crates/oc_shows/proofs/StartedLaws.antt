-- What a Builder holds of a file before its relocations shows the file's sections and symbols.
use Rattle.std.proofs.Common.{◌≡◌, ℕ, zero, suc, Bool, true, false, ◌||◌, cond, eqb, List, [], ◌∷◌, ◌++◌, append_assoc, map, replicate, Option, Some, None, Ok, refl, sym, ◌∙◌, ap, subst, arith}
use Rattle.std.specs.{Prelude.{bytes_eq, nat_eq, slice_get}, List.{find, list_any, position_or_len}}
use Rattle.std.specs.Option.{is_some, option_map, option_map_or, option_and_then}
use Rattle.std.proofs.lemmas.{Bool.{true≢false}, List.Folds.{find_at, list_any-append}, Option.{none-some, same_Some, slice_get-map}}
use Rattle.std.proofs.lemmas.Slice.Eq.{bytes_eq-Decides}
use Rattle.oc_base.specs.{declared.format.Format.{Format}, Strings.{is_given}}
use Rattle.oc_linking.specs.declared.terms.Fallback.TheVariants as fallback
use Rattle.oc_linking.specs.{declared.terms.Binding.{Binding}, declared.terms.Binding.TheVariants.{Local, Global, Undefined, Common, Weak}, Values.{numbered}}
use Rattle.oc_linking.specs.Parts as parts
use Rattle.oc_chains.specs.Lists.{Lists, list_of}
use Rattle.oc_neutral.specs.{declared.group.Group.{Group}, declared.section.Section.{Section}, declared.symbol.Symbol.{Symbol}, declared.reloc.Reloc.{Reloc}}
use Rattle.oc_neutral.specs.{declared.normal.Folded.{Folded}, Building.{Draft, group_added, is_zero, limit_passed, section_added, symbol_added}}
use Rattle.oc_neutral.specs.{Faces.{key_of, number_of, shown_binding, shown_section, shown_symbol}, Keeping.{is_again}}
use Rattle.oc_shows.specs.Computed.{keys_after, keys_in, position_of, placed_binding, computed_symbol}
use Rattle.oc_shows.specs.Started.{StartIsStarted, fieldless, groups_by, plain_draft, stored_section}
use Rattle.oc_neutral.proofs.{MoreSections.{section_taken}, MoreSymbols.{symbol_taken}}

-- ... step by step

-- no section has fields
pub fieldless_at : {T : Type 0} (sections : List Section) (s : ℕ) → list_of (fieldless {T = T} sections) s ≡ []
fieldless_at [] s = refl
fieldless_at (x ∷ sections) zero = refl
fieldless_at {T} (x ∷ sections) (suc s) = fieldless_at {T = T} sections s

fieldless_more : {T : Type 0} (sections : List Section) (x : Section) → fieldless {T = T} (sections ++ x ∷ []) ≡ fieldless sections ++ [] ∷ []
fieldless_more [] x = refl
fieldless_more {T} (s ∷ sections) x = ap (λ (lists : Lists T). [] ∷ lists) (fieldless_more sections x)

module _ (format : Format) (groups : List Group) (sections : List Section) (symbols : List Symbol) where
  -- a group more
  pub group_more : (g : Group) → group_added (plain_draft format groups sections symbols) g ≡ plain_draft format (groups ++ g ∷ []) sections symbols
  group_more g = refl

  -- a section that passes no limit
  pub section_more : (x : Section) → limit_passed sections x ≡ None → section_added (plain_draft format groups sections symbols) x ≡ Ok (plain_draft format groups (sections ++ x ∷ []) symbols)
  section_more x none =
      section_taken (plain_draft format groups sections symbols) x none
      ∙ ap (λ (lists : Lists Reloc). Ok (made lists (fieldless sections ++ [] ∷ []))) (sym (fieldless_more sections x))
      ∙ ap (λ (lists : Lists Folded). Ok (made (fieldless (sections ++ x ∷ [])) lists)) (sym (fieldless_more sections x))
    where
      made : Lists Reloc → Lists Folded → Draft
      made relocs folded = record { object = record { format = format; groups = groups; sections = sections ++ x ∷ []; symbols = symbols; relocs = relocs }; folded = folded }

  -- a symbol that is a Local, or whose name is new
  pub symbol_more : (y : Symbol) → is_again symbols y ≡ false → symbol_added (plain_draft format groups sections symbols) y ≡ Ok (plain_draft format groups sections (symbols ++ y ∷ []))
  symbol_more y new = symbol_taken (plain_draft format groups sections symbols) y new

-- ... the sections

any-left : {X : Type 0} (test : X → Bool) (xs ys : List X) → list_any test xs ≡ true → list_any test (xs ++ ys) ≡ true
any-left test xs ys e = list_any-append test xs ys ∙ ap (λ c. c || list_any test ys) e

any-right : {X : Type 0} (test : X → Bool) (xs ys : List X) → list_any test ys ≡ true → list_any test (xs ++ ys) ≡ true
any-right test xs ys e = list_any-append test xs ys ∙ by (list_any test xs) (list_any test ys) e
  where
    by : (a c : Bool) → c ≡ true → (a || c) ≡ true
    by a c e = grind arith

-- a key stands among those before, or begins
key-begins : (before : List (List ℕ)) (keys : List (Option (List ℕ))) (k : ℕ) (key : List ℕ) → slice_get keys k ≡ Some (Some key) → is_given (before ++ keys_after before keys) key ≡ true
key-begins before [] k key here = absurd (none-some (Some key) here)
key-begins before (None ∷ keys) zero key here = absurd (none-some key (same_Some None (Some key) here))
key-begins before (None ∷ keys) (suc k) key here = key-begins before keys k key here
key-begins before (Some first ∷ keys) k key here = by (is_given before first) refl k here (λ j. key-begins before keys j key) (λ j. key-begins (before ++ first ∷ []) keys j key)
  where
    by : (c : Bool) → is_given before first ≡ c → (k : ℕ) → slice_get (Some first ∷ keys) k ≡ Some (Some key)
        → ((j : ℕ) → slice_get keys j ≡ Some (Some key) → is_given (before ++ keys_after before keys) key ≡ true)
        → ((j : ℕ) → slice_get keys j ≡ Some (Some key) → is_given ((before ++ first ∷ []) ++ keys_after (before ++ first ∷ []) keys) key ≡ true)
        → is_given (before ++ cond c (keys_after before keys) (first ∷ keys_after (before ++ first ∷ []) keys)) key ≡ true
    by true h zero here old new =
        any-left (bytes_eq key) before (keys_after before keys) (subst (λ (x : List ℕ). is_given before x ≡ true) (same_Some first key (same_Some (Some first) (Some key) here)) h)
    by true h (suc k) here old new = old k here
    by false h zero here old new =
        any-right (bytes_eq key) before (first ∷ keys_after (before ++ first ∷ []) keys)
        (ap (λ c. c || list_any (bytes_eq key) (keys_after (before ++ first ∷ []) keys)) ((bytes_eq-Decides key first).1 (sym (same_Some first key (same_Some (Some first) (Some key) here)))))
    by false h (suc k) here old new = subst (λ (xs : List (List ℕ)). is_given xs key ≡ true) (append_assoc before (first ∷ []) (keys_after (before ++ first ∷ []) keys)) (new k here)

-- what a test finds
found : {X : Type 0} (test : X → Bool) (xs : List X) → list_any test xs ≡ true → (x : X) × (find test xs ≡ Some x) × (test x ≡ true)
found test [] e = absurd (true≢false (sym e))
found {X} test (x ∷ xs) e = by (test x) refl e (found test xs)
  where
    by : (c : Bool) → test x ≡ c → (c || list_any test xs) ≡ true → (list_any test xs ≡ true → (y : X) × (find test xs ≡ Some y) × (test y ≡ true))
        → (y : X) × (cond c (Some x) (find test xs) ≡ Some y) × (test y ≡ true)
    by true h e rest = (x, refl, h)
    by false h e rest = rest e

-- a key is found at its position
pub key-found : (keys : List (List ℕ)) (key : List ℕ) → is_given keys key ≡ true → slice_get keys (position_or_len (bytes_eq key) keys) ≡ Some key
key-found keys key given =
    let m = found (bytes_eq key) keys given in
    sym (find_at (bytes_eq key) keys) ∙ m.1 ∙ ap Some (sym ((bytes_eq-Decides key m.0).0 m.2))

module _ (keys : List (List ℕ)) (s : parts.Section) (zeros : is_zero s.kind ≡ true → s.contents ≡ replicate s.size 0) (given : (key : List ℕ) → s.group ≡ Some key → is_given keys key ≡ true) where
  abbrev shown_with : List ℕ → Option (List ℕ) → parts.Section
  shown_with contents group = record { name = s.name; kind = s.kind; align = s.align; size = s.size; contents = contents; tag = s.tag; number = s.number; group = group }

  contents-shown : cond (is_zero s.kind) (replicate s.size 0) (cond (is_zero s.kind) [] s.contents) ≡ s.contents
  contents-shown = by (is_zero s.kind) refl
    where
      by : (c : Bool) → is_zero s.kind ≡ c → cond c (replicate s.size 0) (cond c [] s.contents) ≡ s.contents
      by c h = grind arith

  group-shown : option_and_then (key_of (groups_by keys)) (option_map (λ key. position_or_len (bytes_eq key) keys) s.group) ≡ s.group
  group-shown = by s.group refl
    where
      by : (o : Option (List ℕ)) → s.group ≡ o → option_and_then (key_of (groups_by keys)) (option_map (λ key. position_or_len (bytes_eq key) keys) o) ≡ o
      by None h = refl
      by (Some key) h =
          ap (option_map (λ (x : Group). x.key)) (slice_get-map (λ key. record { key = key }) keys (position_or_len (bytes_eq key) keys) ∙ ap (option_map (λ (key : List ℕ). record { key = key })) (key-found keys key (given key h)))

  -- a section that is stored is shown as the file has it
  pub section-shows : shown_section (groups_by keys) (stored_section keys s) ≡ s
  section-shows =
      ap (λ (contents : List ℕ). shown_with contents (option_and_then (key_of (groups_by keys)) (option_map (λ key. position_or_len (bytes_eq key) keys) s.group))) contents-shown
      ∙ ap (shown_with s.contents) group-shown

sections-show : (keys : List (List ℕ)) (xs : List parts.Section) → ((k : ℕ) (s : parts.Section) → slice_get xs k ≡ Some s → is_zero s.kind ≡ true → s.contents ≡ replicate s.size 0)
    → ((k : ℕ) (s : parts.Section) (key : List ℕ) → slice_get xs k ≡ Some s → s.group ≡ Some key → is_given keys key ≡ true)
    → map (shown_section (groups_by keys)) (map (stored_section keys) xs) ≡ xs
sections-show keys [] zeros given = refl
sections-show keys (x ∷ xs) zeros given =
    ap (λ (y : parts.Section). y ∷ map (shown_section (groups_by keys)) (map (stored_section keys) xs)) (section-shows keys x (zeros 0 x refl) (λ key. given 0 x key refl))
    ∙ ap (λ (ys : List parts.Section). x ∷ ys) (sections-show keys xs (λ k. zeros (suc k)) (λ k. given (suc k)))

-- ... the symbols

-- the symbol of a number is the one at its position
numbered-found : (ys : List parts.Symbol) (number : ℕ) → find (λ (s : parts.Symbol). nat_eq s.number number) ys ≡ numbered ys number
numbered-found [] number = refl
numbered-found (y ∷ ys) number = ap (λ o. cond (eqb y.number number) (Some y) o) (numbered-found ys number)

numbered-has : (ys : List parts.Symbol) (number : ℕ) (y : parts.Symbol) → numbered ys number ≡ Some y → y.number ≡ number
numbered-has [] number y here = absurd (none-some y here)
numbered-has (z ∷ ys) number y here = by (eqb z.number number) refl here (numbered-has ys number y)
  where
    by : (c : Bool) → eqb z.number number ≡ c → cond c (Some z) (numbered ys number) ≡ Some y → (numbered ys number ≡ Some y → y.number ≡ number) → y.number ≡ number
    by c h e rest = grind arith

module _ (ys : List parts.Symbol) where
  -- the number at the position of a number
  number-placed : (number : ℕ) → is_some (numbered ys number) ≡ true → number_of (map (computed_symbol ys) ys) (position_of ys number) ≡ number
  number-placed number there = by (numbered ys number) refl there
    where
      by : (o : Option parts.Symbol) → numbered ys number ≡ o → is_some o ≡ true → number_of (map (computed_symbol ys) ys) (position_of ys number) ≡ number
      by None h e = absurd (true≢false (sym e))
      by (Some y) h e =
          ap (λ (o : Option Symbol). option_map_or (λ (x : Symbol). x.number) o 0)
          (slice_get-map (computed_symbol ys) ys (position_of ys number)
          ∙ ap (option_map (computed_symbol ys)) (sym (find_at (λ (s : parts.Symbol). nat_eq s.number number) ys) ∙ numbered-found ys number ∙ h))
          ∙ numbered-has ys number y h

  abbrev shown_as : parts.Symbol → Binding → parts.Symbol
  shown_as s binding = record { name = s.name; binding = binding; mark = s.mark; vis = s.vis; size = s.size; pinned = s.pinned; number = s.number }

  binding-shown : (b : Binding) → ((number : ℕ) → b ≡ Weak (fallback.Name number) → is_some (numbered ys number) ≡ true)
      → shown_binding (map (computed_symbol ys) ys) (placed_binding ys b) ≡ b
  binding-shown (Local v) names = refl
  binding-shown (Global v) names = refl
  binding-shown Undefined names = refl
  binding-shown (Common size align) names = refl
  binding-shown (Weak (fallback.Place s offset)) names = refl
  binding-shown (Weak fallback.Zero) names = refl
  binding-shown (Weak (fallback.Name number)) names = ap (λ (k : ℕ). Weak (fallback.Name k)) (number-placed number (names number refl))

  symbols-show : (zs : List parts.Symbol) → ((k number : ℕ) (s : parts.Symbol) → slice_get zs k ≡ Some s → s.binding ≡ Weak (fallback.Name number) → is_some (numbered ys number) ≡ true)
      → map (shown_symbol (map (computed_symbol ys) ys)) (map (computed_symbol ys) zs) ≡ zs
  symbols-show [] names = refl
  symbols-show (z ∷ zs) names =
      ap (λ (b : Binding). shown_as z b ∷ map (shown_symbol (map (computed_symbol ys) ys)) (map (computed_symbol ys) zs)) (binding-shown z.binding (λ number. names 0 number z refl))
      ∙ ap (λ (ws : List parts.Symbol). z ∷ ws) (symbols-show zs (λ k. names (suc k)))

-- ... both

pub start_is_started : StartIsStarted
start_is_started f b keep showable draft = record {
  draft = draft;
  format = refl;
  word = showable.word;
  sections = sections-show (keys_in f b) (f.rules.sections b) showable.zeros (λ k s key here member.
      key-begins [] (map (λ (x : parts.Section). x.group) (f.rules.sections b)) k key (slice_get-map (λ (x : parts.Section). x.group) (f.rules.sections b) k ∙ ap (option_map (λ (x : parts.Section). x.group)) here ∙ ap Some member));
  symbols = symbols-show (f.rules.symbols b keep) (f.rules.symbols b keep) showable.names;
  numbered = showable.numbered;
  relocs = fieldless_at {T = Reloc} (map (stored_section (keys_in f b)) (f.rules.sections b));
  folded = fieldless_at {T = Folded} (map (stored_section (keys_in f b)) (f.rules.sections b));
}
