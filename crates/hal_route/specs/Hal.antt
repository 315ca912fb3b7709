-- What a router is: a channel for each row of a program, and the journal of the frames that it passed on.
use Rattle.std.specs.Prelude.{ℕ, ◌+◌, ◌*◌, ◌-◌, ◌==◌, List, [], ◌∷◌, ◌++◌, length, map, if◌then◌else◌}
use Rattle.std.specs.List.{enumerate_from, list_any}
use Rattle.cl_base.specs.declared.limits.TheConstants.{FRAME_BYTES, FRAME_COST}
use Rattle.cl_mean.specs.Journal.{mux_of}
use Rattle.cl_mean.specs.declared.checked.GedlRow.{GedlRow}
use Rattle.hal_route.specs.declared.channel.Channel.{Channel}

-- the channel of a row whose pair of levels has this number
abbrev pub channel_of : GedlRow → ℕ → Channel
channel_of row mux = record { from = row.from; to = row.to; mux = mux; request = row.request; reply = row.reply }

-- the channels of rows: channel k is that of row k
unfoldable pub channels_of : List GedlRow → List Channel
channels_of rows = map (λ p. channel_of p.1 (mux_of rows p.0)) (enumerate_from 0 rows)

-- how many levels are callers: each counts where it is the caller for the last time
abbrev pub callers : List Channel → ℕ
callers [] = 0
callers (c ∷ cs) = (if list_any (λ d. d.from == c.from) cs then 0 else 1) + callers cs

-- the room that is left while a frame may still be taken: that of two frames of the greatest length
abbrev pub least_room : ℕ
least_room = 2 * FRAME_BYTES

-- the bytes of a whole journal
abbrev pub capacity : List Channel → ℕ
capacity channels = FRAME_COST * callers channels + least_room

-- what contracts see of a router: `journal` has the bytes of the frames that it passed on, and `frames` counts them
pub record State : Type 0 where
  pub channels : List Channel
  pub main : ℕ
  pub journal : List ℕ
  pub frames : ℕ

-- the bytes of the journal that are free
abbrev pub room_of : State → ℕ
room_of hal = capacity hal.channels - length hal.journal

-- the state with one more frame in the journal
abbrev pub recorded : State → List ℕ → State
recorded hal frame = record { channels = hal.channels; main = hal.main; journal = hal.journal ++ frame; frames = hal.frames + 1 }
