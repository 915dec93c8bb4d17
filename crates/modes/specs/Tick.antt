-- What a tick does to an axis that is not down, by its mode and inputs. A tick ends in a step of the new speed in the new
-- direction.
use Rattle.std.specs.Prelude.{Bool, true, false, ℤ, None, Option}
use Rattle.modes.specs.declared.input.Input.{Input}
use Rattle.modes.specs.declared.input.Seen.{Seen}
use Rattle.moves.specs.declared.state.Mode.{Mode}
use Rattle.moves.specs.declared.state.Mode.TheVariants.{Unset, Down, Rest, Moving, Settling, Dwelling, Waiting, Stopping, Jogging, Homing, Creeping}
use Rattle.moves.specs.declared.state.State.{State}
use Rattle.modes.specs.Standing.{still, dwell, gap_within, settle, slow_down}
use Rattle.modes.specs.Jogging.{jog}
use Rattle.modes.specs.Homing.{search_home, creep, crept_home}
use Rattle.modes.specs.Travel.{travel}

-- The state after a tick, by the mode and the inputs together. The switch makes a homing axis creep in the same tick.
-- Axes that have no parameters or are down are not advanced.
abbrev pub advance_mode : Mode → Bool → Bool → Seen → State → State
advance_mode Unset switch marker seen s = s
advance_mode Down switch marker seen s = s
advance_mode Rest switch marker seen s = still s
advance_mode (Moving leg) switch marker seen s = travel leg s
advance_mode (Settling endpoint) switch marker seen s = settle endpoint seen.place (gap_within seen.gap s.parameters.band) s
advance_mode (Dwelling ticks) switch marker seen s = dwell seen.place ticks s
advance_mode Waiting switch marker seen s = still s
advance_mode Stopping switch marker seen s = slow_down seen.place s
advance_mode Jogging switch marker seen s = jog seen s
advance_mode Homing false marker seen s = search_home Homing s.parameters.home_rate seen s
advance_mode Homing true marker seen s = creep marker seen s
advance_mode Creeping switch marker seen s = creep marker seen s

abbrev pub advance : Input → Seen → State → State
advance input seen s = advance_mode s.motion.mode input.switch input.marker seen s

-- the place that the tick names, if it finds home
abbrev pub named_by : Mode → Bool → Bool → State → Option ℤ
named_by Unset switch marker s = None
named_by Down switch marker s = None
named_by Rest switch marker s = None
named_by (Moving leg) switch marker s = None
named_by (Settling endpoint) switch marker s = None
named_by (Dwelling ticks) switch marker s = None
named_by Waiting switch marker s = None
named_by Stopping switch marker s = None
named_by Jogging switch marker s = None
named_by Homing false marker s = None
named_by Homing true marker s = crept_home marker s
named_by Creeping switch marker s = crept_home marker s

abbrev pub named_home : Input → State → Option ℤ
named_home input s = named_by s.motion.mode input.switch input.marker s
