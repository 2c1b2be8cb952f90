-- Groups, begun one after the other in the order of their first members.
use Rattle.oc_coff.specs.{Files.{CoffFile, slot_in, tables_in}, Forms.{symbol_size, format_by}, Tables.{SectionTable, Tables}, Names.{symbol_name}}
use Rattle.oc_coff.specs.{Entries.{name_of}, Comdat.{key_in, led_key}, Sections.{Carried, carried_of, is_stored, kind_in, section_of}}
use Rattle.oc_coff.specs.SymbolFaults.{symbol_stage}
use Rattle.std.proofs.Common.{◌≡◌, ℕ, ◌+◌, ◌*◌, ◌<◌, ◌≤◌, true, false, cond, List, [], ◌∷◌, ◌++◌, length, replicate, set, Option, None, Some, refl, sym, ◌∙◌, ap, arith}
use Rattle.std.specs.{Prelude.{bytes_eq, is_some, slice_get, slice_index_or}, List.{position_or_len}, Option.{option_map, option_and_then, unwrap_or}}
use Rattle.std.proofs.lemmas.{Option.{none-some, same_Some}, List.{map-append, length-set}}
use Rattle.oc_base.specs.{declared.format.Word.{Word}, Strings.{is_given}}
use Rattle.oc_linking.specs.{declared.terms.Kind.{Kind}, FirstFault.{stage_fault}}
use Rattle.oc_linking.specs.Parts as parts
use Rattle.oc_neutral.specs.{declared.group.Group.{Group}, Building.{Draft, group_added}}
use Rattle.oc_shows.specs.Started.{groups_by, plain_draft}
use Rattle.oc_shows.proofs.StartedLaws.{group_more}
use Rattle.oc_coff_read.specs.Built.{AreBegunGroups, grouped, keys_of, keys_upto}
use Rattle.oc_coff_judge.specs.{Led.{carried_at, leader_of, section_at}, Numbered.{entry_by}}
use Rattle.oc_coff_judge.proofs.LedLemmas.{key_led, leading, one_leader}
use Rattle.oc_shows.proofs.BegunLaws as laws
use Rattle.oc_shelf.proofs.ReadingLaws.SlotLemmas.{get_or-replicate, length-replicate}

-- the group of a section is that of its number
pub section_group : (t : Tables) (i : ℕ) (s : parts.Section) → section_at t i ≡ Some s → s.group ≡ key_in t (i + 1)
unfolding carried_at carried_of
section_group t i s is = by (slice_get t.sections i) refl is
  where
    by : (o : Option SectionTable) → slice_get t.sections i ≡ o → option_map (λ (c : Carried). c.section) (option_and_then (λ (x : SectionTable). carried_of t (i + 1, x)) o) ≡ Some s → s.group ≡ key_in t (i + 1)
    by None e h = absurd (none-some s h)
    by (Some x) e h = kind (kind_in t.strings x.header) h
      where
        kind : (k : Option Kind)
            → option_map (λ (c : Carried). c.section) (option_map (λ kind. record { section = section_of t (i + 1) x kind; stored = is_stored (Some kind) x.header; relocs_at = x.relocs_at; relocs = x.relocs }) k) ≡ Some s
            → s.group ≡ key_in t (i + 1)
        kind None h = absurd (none-some s h)
        kind (Some k) h = sym (ap (λ (y : parts.Section). y.group) (same_Some (section_of t (i + 1) x k) s h))

-- ... keys

pub keys_passed : (t : Tables) (k : ℕ) → is_some (section_at t k) ≡ false → keys_upto t (k + 1) ≡ keys_upto t k
keys_passed t k is = laws.keys_passed (section_at t) k is

pub keys_alone : (t : Tables) (k : ℕ) → is_some (section_at t k) ≡ true → key_in t (k + 1) ≡ None → keys_upto t (k + 1) ≡ keys_upto t k
keys_alone t k is none = laws.keys_alone (section_at t) (λ i. key_in t (i + 1)) (section_group t) k is none

pub keys_few : (t : Tables) (k : ℕ) → length (keys_upto t k) ≤ k
keys_few t k = laws.keys_few (section_at t) k

-- none is begun at first
pub begun_start : (t : Tables) (n : ℕ) → n ≡ length t.sections + 1 → AreBegunGroups t (keys_upto t 0) (replicate n None)
begun_start t n is = record { long = length-replicate n None ∙ is; each = λ g key has. get_or-replicate n g None }

-- a group more is begun
pub begun_more : (t : Tables) → stage_fault (symbol_stage t) ≡ None → (keys : List (List ℕ)) (slots : List (Option ℕ)) → AreBegunGroups t keys slots → (g : ℕ) (key : List ℕ) → led_key t g ≡ Some key → is_given keys key ≡ false
    → AreBegunGroups t (keys ++ key ∷ []) (set slots g (Some (length keys)))
begun_more t symbols keys slots are g key is new = record {
  long = length-set slots g (Some (length keys)) ∙ are.long;
  each = λ h other is_h. laws.slot_begun keys slots g key low new h other (are.each h other is_h) (λ same. same_Some key other (sym is ∙ ap (led_key t) same ∙ is_h)) (λ same. one_leader t symbols g h key other is is_h same);
}
  where
    low : g < length slots
    low = let l = leading t g key is in let most = l.low in let long = are.long in omega (arith, most, long)

module _ (t : Tables) (k : ℕ) (carried : is_some (section_at t k) ≡ true) where
  module _ (g : ℕ) (held : leader_of t (k + 1) ≡ Some g) (key : List ℕ) (is : led_key t g ≡ Some key) where
    key_is : key_in t (k + 1) ≡ Some key
    key_is = key_led t (k + 1) ∙ ap (option_and_then (led_key t)) held ∙ is

    -- or whose group is begun
    pub none_new : is_given (keys_upto t k) key ≡ true → keys_upto t (k + 1) ≡ keys_upto t k
    none_new = laws.none_new (section_at t) (λ i. key_in t (i + 1)) (section_group t) k key carried key_is

    -- else it begins
    pub one_new : is_given (keys_upto t k) key ≡ false → keys_upto t (k + 1) ≡ keys_upto t k ++ key ∷ []
    one_new = laws.one_new (section_at t) (λ i. key_in t (i + 1)) (section_group t) k key carried key_is

-- with it, the draft has one group more
pub group_begun : (w : Word) (t : Tables) (k : ℕ) (key : List ℕ) → keys_upto t (k + 1) ≡ keys_upto t k ++ key ∷ [] → (d e : Draft) (x : Group) → d ≡ grouped w t k → x.key ≡ key → e ≡ group_added d x
    → e ≡ grouped w t (k + 1)
group_begun w t k key next d e x before own added =
    added ∙ ap (λ (d : Draft). group_added d x) before ∙ group_more (format_by w t.shape) (groups_by (keys_upto t k)) [] [] x
    ∙ ap (λ (key : List ℕ). plain_draft (format_by w t.shape) (groups_by (keys_upto t k) ++ record { key = key } ∷ []) [] []) own
    ∙ ap (λ (gs : List Group). plain_draft (format_by w t.shape) gs [] []) (sym (map-append (λ (key : List ℕ). record { key = key }) (keys_upto t k) (key ∷ [])))
    ∙ ap (λ (keys : List (List ℕ)). plain_draft (format_by w t.shape) (groups_by keys) [] []) (sym next)

-- ... the group of a section

-- the key of a carried section is one of all
pub key_given : (t : Tables) (k : ℕ) (key : List ℕ) → k < length t.sections → is_some (section_at t k) ≡ true → key_in t (k + 1) ≡ Some key → is_given (keys_of t) key ≡ true
key_given t k key low carried is = laws.key_given (section_at t) (λ i. key_in t (i + 1)) (section_group t) (length t.sections) k key low carried is

-- the slot of the section that leads a carried section's group has the position of the key
pub begun_at : (t : Tables) (slots : List (Option ℕ)) → AreBegunGroups t (keys_of t) slots → (k g : ℕ) (key : List ℕ) → k < length t.sections → is_some (section_at t k) ≡ true → leader_of t (k + 1) ≡ Some g
    → led_key t g ≡ Some key → slice_index_or slots g None ≡ option_map (λ key. position_or_len (bytes_eq key) (keys_of t)) (key_in t (k + 1))
begun_at t slots are k g key low carried held is =
    let own : key_in t (k + 1) ≡ Some key = key_led t (k + 1) ∙ ap (option_and_then (led_key t)) held ∙ is in
    are.each g key is
    ∙ ap (λ b. cond b (Some (position_or_len (bytes_eq key) (keys_of t))) None) (key_given t k key low carried own)
    ∙ sym (ap (option_map (λ key. position_or_len (bytes_eq key) (keys_of t))) own)

-- the name of an entry is that of its symbol
pub entry_named : (file : CoffFile) (j : ℕ) → unwrap_or (symbol_name (tables_in file).strings (slot_in file ((tables_in file).entries_at + symbol_size file.shape * j)).symbol.Name) [] ≡ name_of (tables_in file).strings (entry_by file j)
unfolding entry_by
entry_named file j = refl
