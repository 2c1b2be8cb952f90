-- What a fixup does, by what its frame and its target name (TIS OMF 1.1, "FIXUPP"; our profile).
use Rattle.std.specs.Prelude.{ℕ, ◌-◌, Bool, true, false, ◌&&◌, ◌||◌, nat_eq, if◌then◌else◌, Option, Some, None}
use Rattle.std.specs.Option.{option_and_then, option_map, option_map_or}
use Rattle.oc_linking.specs.{declared.terms.Keep.{Keep}, Keeping.{keeps}}
use Rattle.oc_linking.specs.Parts as parts
use Rattle.oc_linking.specs.Rules as rules
use Rattle.oc_linking.specs.Targets as file
use Rattle.oc_shows.specs.Computed.{position_of}
use Rattle.oc_neutral.specs.declared.reloc.Target.{Target}
use Rattle.oc_neutral.specs.declared.reloc.Target.TheVariants as target
use Rattle.oc_omf.specs.{declared.constants.TheConstants.{OFFSET_32}, declared.structures.Fixup.{Fixup}, declared.structures.Method.{Method}}
use Rattle.oc_omf.specs.{declared.structures.Segment.{Segment}, declared.threads.Threads.{Threads}, Entries.{entries_in}, Sections.{segment_kind}}
use Rattle.oc_omf.specs.{Tables.{Tables, indexed, tables_of}, Targets.{Meaning, external_at, is_flat, meaning_of, same_named, target_of}}
use Rattle.oc_omf_read.specs.{declared.fix.Fix.{Fix}, declared.fix.FixupFrame.{FixupFrame}, declared.fixes.Aim.{Aim}, declared.fixes.Named.{Named}}
use Rattle.oc_omf_read.specs.{declared.fixes.FixupContext.{FixupContext}, Given.{against}, Declarations.{declarations_in}}
use Rattle.oc_omf_read.specs.Mentioned.{HasDeclarations, ModuleSymbol}
use Rattle.oc_omf_read.specs.declared.fix.FixupFrame.TheVariants as framed
use Rattle.oc_omf_read.specs.declared.fixes.Named.TheVariants as named
use Rattle.oc_omf_judge.specs.{Defined.{IsDefined}, Threads.{method_by}}

-- what is known is what the module gives
pub record Sees (s : FixupContext) : Type 0 where
  pub knows : IsDefined (tables_of (entries_in s.omf.now)) s.known.now
  pub declarations : HasDeclarations (declarations_in (entries_in s.omf.now)) s.mentions.now

-- what indexes mean in the module
abbrev pub meaning_seen : FixupContext → Meaning
meaning_seen s = meaning_of (entries_in s.omf.now)

-- what is named, as the rules have it
abbrev pub named_as : Named → rules.Named
named_as (named.Symbol k) = rules.Symbolic k
named_as (named.Section k) = rules.Sectional k

-- what a method names: as the object has it, and as frames are compared with it
abbrev pub aim_by : Meaning → Method → Option (Target × rules.Named)
aim_by m method = option_and_then (λ (u : file.Target). option_map (λ (t : Target). (t, u.named)) (against m method)) (target_of m method)

-- what the external of an index names
abbrev pub external_aim : Meaning → ℕ → Option (Target × rules.Named)
external_aim m index =
    option_and_then (λ (y : parts.Symbol). option_map (λ (u : file.Target). (target.Symbol (position_of m.symbols y.number), u.named)) (file.symbol_target y)) (external_at m index)

-- what a symbol of that number names
abbrev pub symbol_named : ModuleSymbol → ℕ → rules.Named
symbol_named s number = option_map_or (λ (place : ℕ × ℕ). if s.local then rules.Sectional (place.0 - 1) else rules.Symbolic number) s.place (rules.Symbolic number)

-- the same, as the program has it
abbrev pub aim_as : Aim → Target × rules.Named
aim_as a = (a.target, named_as a.named)

-- the method of the frame of a fixup, and that of its target, by the threads that are held
abbrev pub method_of_frame : Threads → Fixup → Option Method
method_of_frame threads f = method_by threads true f.frame

abbrev pub method_of_target : Threads → Fixup → Option Method
method_of_target threads f = method_by threads false f.target

-- ... frames

-- what a frame names, for a fixup of data of a segment
abbrev pub frame_named : Meaning → ℕ → Method → Option rules.Named
frame_named m segment frame = if nat_eq frame.number 4 then Some (rules.Sectional (segment - 1)) else option_map (λ (a : Target × rules.Named). a.1) (aim_by m frame)

-- a frame is that of a target which names that
abbrev pub is_home_of : Meaning → ℕ → Method → rules.Named → Bool
is_home_of m segment frame target = nat_eq frame.number 5 || option_map_or (same_named target) (frame_named m segment frame) false

-- from where a segment-relative fixup counts
abbrev pub framed_by : Meaning → ℕ → rules.Named → Method → Option FixupFrame
framed_by m segment target frame = if is_flat m frame then Some framed.Flat else if is_home_of m segment frame target then Some framed.Home else None

-- from where a fixup counts
abbrev pub framed_of : Meaning → ℕ → Fixup → Option Method → rules.Named → Option FixupFrame
framed_of m segment f frame target = if f.segment_relative then option_and_then (framed_by m segment target) frame else Some framed.Own

-- ... fixups

-- what a fixup does that is aimed so
abbrev pub fix_to : Meaning → ℕ → Fixup → Option Method → Target × rules.Named → Option Fix
fix_to m segment f frame aim = option_map (λ (framed : FixupFrame). record { framed = framed; target = aim.0; displacement = f.displacement }) (framed_of m segment f frame aim.1)

-- what a fixup of data of a segment does, with that frame and that target
abbrev pub fix_by : Meaning → ℕ → Fixup → Option Method → Option Method → Option Fix
fix_by m segment f frame target = option_and_then (fix_to m segment f frame) (option_and_then (aim_by m) target)

-- the same, with the frame and the target by the threads that are held
abbrev pub fix_by_threads : Meaning → Threads → ℕ → Fixup → Option Fix
fix_by_threads m threads segment f = fix_by m segment f (method_of_frame threads f) (method_of_target threads f)

-- the segment of an index exists, and is kept
abbrev pub is_kept : Tables → Keep → ℕ → Bool
is_kept t keep segment = option_map_or (λ (s : Segment). keeps keep (segment_kind t segment s)) (indexed t.segments segment) false

-- what a fixup of data of a segment that is kept does, with that frame and that target, where it is of the location type that we have
unfoldable pub fix_for : Meaning → Keep → ℕ → Fixup → Option Method → Option Method → Option Fix
fix_for m keep segment f frame target = if nat_eq f.location OFFSET_32 && is_kept m.tables keep segment then fix_by m segment f frame target else None

-- the same, with the frame and the target by the threads that are held
abbrev pub fix_for_threads : Meaning → Keep → Threads → ℕ → Fixup → Option Fix
fix_for_threads m keep threads segment f = fix_for m keep segment f (method_of_frame threads f) (method_of_target threads f)
