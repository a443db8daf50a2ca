-- A timeline as SVG. Sizes are in pixels.
use Rattle.std.specs.Prelude.{◌≡◌, ℕ, ◌+◌, ◌-◌, ◌*◌, ◌^◌, min, List, ◌++◌, flat_map, nat_lt, if◌then◌else◌, codes, decimal}
use Rattle.std.specs.List.{range_with_len, enumerate_from}
use Rattle.hx_trace.specs.declared.event.Event.{Event}
use Rattle.hx_trace.specs.declared.telling.Called.{Called}
use Rattle.hx_trace.specs.declared.trace.Told.{Told}
use Rattle.hx_timeline.specs.declared.chart.Fate.{Fate}
use Rattle.hx_timeline.specs.declared.chart.Fate.TheVariants.{Runs, Committed, Squashed, Dropped}
use Rattle.hx_timeline.specs.declared.chart.Attempt.{Attempt}
use Rattle.hx_timeline.specs.declared.chart.Link.{Link}
use Rattle.hx_timeline.specs.Chart.{lane_count, attempts_of, violations_of, forwards_of}
use Rattle.hx_timeline.specs.Columns.{label_of}

-- a size, as far as 64 bits count
abbrev pub pixels : ℕ → ℕ
pixels n = min n (2 ^ 64 - 1)

-- lanes are beside one another, and rows below one another
abbrev pub left_of : ℕ → ℕ
left_of worker = 48 + 212 * worker

abbrev pub middle_of : ℕ → ℕ
middle_of row = pixels (53 + 26 * row)

abbrev pub size_of : List ℕ → ℕ → List ℕ
size_of name n = codes " " ++ name ++ codes "=\"" ++ decimal n ++ codes "\""

abbrev pub head_of : ℕ → List ℕ
head_of worker = codes "<text font-weight=\"bold\" text-anchor=\"middle\"" ++ size_of (codes "x") (left_of worker + 106) ++ size_of (codes "y") 24 ++ codes ">worker " ++ decimal worker ++ codes "</text>\n"

-- how the box of an attempt is drawn
abbrev pub style_of : Fate → List ℕ
style_of Runs = codes " fill=\"white\" stroke=\"black\" stroke-width=\"0.7\""
style_of Committed = codes " fill=\"white\" stroke=\"black\" stroke-width=\"2\""
style_of Squashed = codes " fill=\"url(#squashed)\" stroke=\"black\" stroke-width=\"1.5\" stroke-dasharray=\"6 4\""
style_of Dropped = codes " fill=\"url(#dropped)\" stroke=\"black\" stroke-width=\"1.5\" stroke-dasharray=\"1.5 4\""

-- a rectangle in this lane, between these heights
abbrev pub rectangle : ℕ → ℕ → ℕ → List ℕ → List ℕ
rectangle worker top bottom style = codes "<rect rx=\"3\"" ++ size_of (codes "x") (left_of worker + 12) ++ size_of (codes "y") top ++ size_of (codes "width") 188 ++ size_of (codes "height") (bottom - top) ++ style ++ codes "/>\n"

-- from the row of an attempt's start to that of its end, in its worker's lane
abbrev pub box_of : Attempt → List ℕ
box_of x = rectangle x.worker (middle_of x.first - 11) (pixels (middle_of x.last + 11)) (style_of x.fate)

-- the sides of two boxes that face each other
abbrev pub side_from : Link → ℕ
side_from k = if nat_lt k.from k.to then left_of k.from + 200 else left_of k.from + 12

abbrev pub side_to : Link → ℕ
side_to k = if nat_lt k.from k.to then left_of k.to + 12 else left_of k.to + 200

abbrev pub line_of : Link → List ℕ
line_of k = codes "<line stroke=\"black\"" ++ size_of (codes "x1") (side_from k) ++ size_of (codes "y1") (middle_of k.from_row) ++ size_of (codes "x2") (side_to k) ++ size_of (codes "y2") (middle_of k.to_row)

abbrev pub arrow_of : Link → List ℕ
arrow_of k = line_of k ++ codes " stroke-width=\"1.5\" marker-end=\"url(#tip)\"/>\n"

-- a thick line, and a diamond at the store
abbrev pub violation_of : Link → List ℕ
violation_of k = line_of k ++ codes " stroke-width=\"3\"/>\n<path d=\"M" ++ decimal (side_from k - 7) ++ codes " " ++ decimal (middle_of k.from_row) ++ codes "l7 -7l7 7l-7 7z\"/>\n"

-- a row's number, left of the lanes
abbrev pub number_of : ℕ → ℕ → List ℕ
number_of row y = codes "<text fill=\"#555\" text-anchor=\"end\"" ++ size_of (codes "x") 40 ++ size_of (codes "y") y ++ codes ">" ++ decimal (row + 1) ++ codes "</text>\n"

-- words in the middle of a worker's lane
abbrev pub words_of : ℕ → ℕ → List ℕ → List ℕ
words_of worker y label = codes "<text text-anchor=\"middle\" paint-order=\"stroke\" stroke=\"white\" stroke-width=\"3\"" ++ size_of (codes "x") (left_of worker + 106) ++ size_of (codes "y") y ++ codes ">" ++ label ++ codes "</text>\n"

abbrev pub event_of : List Called → List ℕ → ℕ → Event → List ℕ
event_of names printed row e = let y = pixels (middle_of row + 4) in number_of row y ++ words_of e.worker y (label_of names printed e e.deed)

abbrev pub events_from : List Called → List ℕ → ℕ → List Event → List ℕ
events_from names printed row events = flat_map (λ p. event_of names printed p.0 p.1) (enumerate_from row events)

-- a head for each lane, the boxes of the attempts, the lines of the violations, the arrows of forwarded values, and what was done
abbrev pub drawn : List Called → List ℕ → List Event → List ℕ
drawn names printed events = flat_map head_of (range_with_len 0 (lane_count events)) ++ flat_map box_of (attempts_of events) ++ flat_map violation_of (violations_of events) ++ flat_map arrow_of (forwards_of events) ++ events_from names printed 0 events

-- THE picture of a replay that is told, on some sheet
pub record IsPicture (names : List Called) (t : Told) (svg : List ℕ) : Type 0 where
  pub sheet : List ℕ
  pub layers : svg ≡ codes "<svg xmlns=\"http://www.w3.org/2000/svg\"" ++ sheet ++ drawn names t.trace.text.items t.events.items ++ codes "</svg>\n"
