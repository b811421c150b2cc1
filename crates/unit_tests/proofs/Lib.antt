mod Standard
mod Sum
